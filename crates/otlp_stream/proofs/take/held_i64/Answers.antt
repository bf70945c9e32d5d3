use Rattle.std.proofs.Common.{◌≡◌, ◌<◌, ◌^◌, sym, ◌∙◌, arith, w64, pos, subst, rules}
use mir.Val.{to_z, of_z}
use Rattle.otlp_reading.specs.Kinds.{i64_value}
use Rattle.otlp_stream.specs.Taking.{TakesAs, held}
use Rattle.otlp_stream.proofs.Takes.{held_i64_string, held_i64_number}
use Rattle.otlp_stream.proofs.take.held_i64.Goals as goal

pub returns-in-Some : goal.returns-in-Some
returns-in-Some c depth =
    let z : c.in-Some.n ≡ to_z w64 (of_z w64 c.in-Some.n) = search rules in
    subst (TakesAs (held i64_value) depth c.args.reader.now c.next.new.self) z
    (held_i64_string depth _ _ _ _ (rw c.in-Some-String.field-0-is at c.in-Some-String.ensures.value) (sym c.i64_text.ensures ∙ c.in-Some.is))

pub returns-then-n-le9223372036854775807 : goal.returns-then-n-le9223372036854775807
returns-then-n-le9223372036854775807 c depth =
    let fits : c.in-Some-natural.n < 2 ^ 63 = omega arith in
    let z : pos c.in-Some-natural.n ≡ to_z w64 c.in-Some-natural.n = search rules in
    subst (TakesAs (held i64_value) depth c.args.reader.now c.next.new.self) z
    (held_i64_number depth _ _ _ _ (rw c.in-Some-Number.field-0-is at c.in-Some-Number.ensures.value) c.in-Some-natural.ensures fits)
