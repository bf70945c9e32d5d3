use Rattle.std.proofs.Common.{◌+◌, ◌*◌}
use Rattle.ottl_text.proofs.reading.+expression.Given as goal

abbrev pub decreases-expression : goal.decreases-expression
decreases-expression l = 8 * l.levels

abbrev pub decreases-operators : goal.decreases-operators
decreases-operators l = 8 * l.levels

abbrev pub decreases-operand : goal.decreases-operand
decreases-operand l = 8 * l.levels + 5

abbrev pub decreases-inner_at : goal.decreases-inner_at
decreases-inner_at l = 8 * l.levels + 1

abbrev pub decreases-word_at : goal.decreases-word_at
decreases-word_at l = 8 * l.levels + 4

abbrev pub decreases-named_at : goal.decreases-named_at
decreases-named_at l = 8 * l.levels + 3

abbrev pub decreases-not_at : goal.decreases-not_at
decreases-not_at l = 8 * l.levels + 1

abbrev pub decreases-argument_at : goal.decreases-argument_at
decreases-argument_at l = 8 * l.levels + 1

abbrev pub decreases-unary_at : goal.decreases-unary_at
decreases-unary_at l = 8 * l.levels + 2

abbrev pub decreases-binary_at : goal.decreases-binary_at
decreases-binary_at l = 8 * l.levels + 2

abbrev pub decreases-match_at : goal.decreases-match_at
decreases-match_at l = 8 * l.levels + 2

abbrev pub decreases-substring_at : goal.decreases-substring_at
decreases-substring_at l = 8 * l.levels + 2

abbrev pub decreases-cased_at : goal.decreases-cased_at
decreases-cased_at l = 8 * l.levels + 2

abbrev pub decreases-concat_at : goal.decreases-concat_at
decreases-concat_at l = 8 * l.levels + 2

abbrev pub decreases-values_at : goal.decreases-values_at
decreases-values_at l = 8 * l.levels + 1
