use Rattle.otlp_stream.proofs.Takes.{held_boolean}
use Rattle.otlp_stream.proofs.take.held_bool.Goals as goal

pub returns-in-Some-Bool : goal.returns-in-Some-Bool
returns-in-Some-Bool c depth = held_boolean depth _ _ _ (rw c.in-Some-Bool.field-0-is at c.in-Some-Bool.ensures.value)
