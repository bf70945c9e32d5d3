use Rattle.otlp_stream.proofs.take.begin_array.Goals as goal

pub returns-clause-begins : goal.returns-clause-begins
returns-clause-begins c = rw c.in-Some-BeginArray.field-0-is at c.in-Some-BeginArray.ensures.value
