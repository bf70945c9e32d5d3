use Rattle.std.proofs.Common.{arith}
use Rattle.shortest_float.specs.Words.{value}
use Rattle.shortest_float.proofs.natural.Natural.of_word.Goals as goal

pub returns : goal.returns
unfolding value
returns c = omega arith
