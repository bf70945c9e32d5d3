use Rattle.std.proofs.Common.{refl}
use Rattle.otlp_stream.proofs.Takes.{takes_string, takes_number}
use Rattle.otlp_stream.proofs.take.discarded_double.Goals as goal

pub returns-then-is_taken : goal.returns-then-is_taken
returns-then-is_taken c depth =
    let n = c.is_taken.ensures c.if-is_taken.true in
    (_, takes_number depth _ _ _ n.0 (rw c.in-Some-Number.field-0-is at c.in-Some-Number.ensures.value) n.1, refl)

pub returns-in-Some-String : goal.returns-in-Some-String
returns-in-Some-String c depth = (_, takes_string depth _ _ _ (rw c.in-Some-String.field-0-is at c.in-Some-String.ensures.value), refl)
