use Rattle.std.proofs.Common.{refl}
use Rattle.json.specs.Token.{begin_object, begin_array}
use Rattle.span_size.proofs.counter.ByteCounter.begin_nested.Goals as goal

pub returns-clause-object : goal.returns-clause-object
returns-clause-object c = c.token.ensures begin_object (record { size = refl; begin = refl; end = refl })

pub returns-clause-array : goal.returns-clause-array
returns-clause-array c = c.token.ensures begin_array (record { size = refl; begin = refl; end = refl })
