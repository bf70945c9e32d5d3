use Rattle.std.proofs.Common.{length}
use Rattle.shortest_float.proofs.natural.+multiply_words.Given as goal

abbrev pub decreases-multiply_words : goal.decreases-multiply_words
decreases-multiply_words l = length l.words.now
