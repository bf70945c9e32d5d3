use Rattle.std.proofs.Common.{length}
use Rattle.ottl_print.proofs.texts.+put_with_a_point.Given as goal

abbrev pub decreases-put_with_a_point : goal.decreases-put_with_a_point
decreases-put_with_a_point l = length l.number.now
