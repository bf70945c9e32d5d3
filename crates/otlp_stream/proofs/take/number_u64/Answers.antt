use Rattle.std.proofs.Common.{refl, sym, ◌∙◌, arith}
use Rattle.otlp_reading.specs.Kinds.{u64}
use Rattle.otlp_stream.proofs.Takes.{u64_number, u64_string, null_default}
use Rattle.otlp_stream.proofs.take.number_u64.Goals as goal

pub returns-in-Some : goal.returns-in-Some
returns-in-Some c depth = u64_string depth _ _ _ _ (rw c.in-Some-String.field-0-is at c.in-Some-String.ensures.value) (sym c.u64_text.ensures ∙ c.in-Some.is)

pub returns-in-Some-natural : goal.returns-in-Some-natural
returns-in-Some-natural c depth = u64_number depth _ _ _ _ (rw c.in-Some-Number.field-0-is at c.in-Some-Number.ensures.value) c.in-Some-natural.ensures (omega arith)

pub returns-in-Some-Null : goal.returns-in-Some-Null
returns-in-Some-Null c depth = null_default u64 _ refl depth _ _ (rw c.in-Some-Null.field-0-is at c.in-Some-Null.ensures.value)
