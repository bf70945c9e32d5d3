use Rattle.otlp_stream.proofs.take.begin_object.Goals as goal

pub returns-clause-begins : goal.returns-clause-begins
returns-clause-begins c = rw c.in-Some-BeginObject.field-0-is at c.in-Some-BeginObject.ensures.value
