use Rattle.std.proofs.Common.{subst, sym}
use Rattle.serde_json.specs.Find.{as_str}
use Rattle.otlp_stream.specs.Taking.{TakesAs, held}
use Rattle.otlp_stream.proofs.Takes.{held_string}
use Rattle.otlp_stream.proofs.take.held_text.Goals as goal

pub returns-in_ok-from_str-in-Some-String : goal.returns-in_ok-from_str-in-Some-String
returns-in_ok-from_str-in-Some-String c depth =
    subst (TakesAs (held as_str) depth c.args.reader.now c.next.new.self) (sym c.in_ok-from_str-in-Some-String.ensures) (held_string depth _ _ _ (rw c.in-Some-String.field-0-is at c.in-Some-String.ensures.value))
