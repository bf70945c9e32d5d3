use Rattle.std.proofs.Common.{refl}
use Rattle.json.specs.Token.{end_object, end_array}
use Rattle.span_size.proofs.counter.ByteCounter.end_nested.Goals as goal

pub returns-clause-object : goal.returns-clause-object
returns-clause-object c = c.token.ensures end_object (record { size = refl; begin = refl; end = refl })

pub returns-clause-array : goal.returns-clause-array
returns-clause-array c = c.token.ensures end_array (record { size = refl; begin = refl; end = refl })
