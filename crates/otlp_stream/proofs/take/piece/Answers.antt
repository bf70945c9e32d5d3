use Rattle.std.proofs.Common.{refl}
use Rattle.otlp_reading.specs.Kinds.{text}
use Rattle.otlp_stream.proofs.Takes.{text_string, null_default}
use Rattle.otlp_stream.proofs.take.piece.Goals as goal

pub returns-in-Some-String : goal.returns-in-Some-String
returns-in-Some-String c depth = text_string depth _ _ _ (rw c.in-Some-String.field-0-is at c.in-Some-String.ensures.value)

pub returns-in-Some-Null : goal.returns-in-Some-Null
returns-in-Some-Null c depth = null_default text _ refl depth _ _ (rw c.in-Some-Null.field-0-is at c.in-Some-Null.ensures.value)
