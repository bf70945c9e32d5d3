use Rattle.std.proofs.Common.{◌+◌, ◌*◌}
use Rattle.otlp_reading.specs.Kinds.{message}
use Rattle.otlp_reading.specs.Reading.{value_to, key_value}
use Rattle.otlp_reading.proofs.Each.{Sieves}
use Rattle.otlp_reading.proofs.value.+value.Given as goal

abbrev pub decreases-value_to : goal.decreases-value_to
decreases-value_to l = 4 * l.levels

abbrev pub decreases-value_by : goal.decreases-value_by
decreases-value_by l = 4 * l.levels + 3

abbrev pub invariant-values-loop-item : goal.invariant-values-loop-item
invariant-values-loop-item l = Sieves (value_to l.fn.keeps_doubles l.fn.levels) l.items l.item-index l.all.kept l.all.discarded

abbrev pub decreases-values : goal.decreases-values
decreases-values l = 4 * l.levels + 2

abbrev pub invariant-key_values-loop-item : goal.invariant-key_values-loop-item
invariant-key_values-loop-item l = Sieves (message (key_value (value_to l.fn.keeps_doubles l.fn.levels))) l.items l.item-index l.all.kept l.all.discarded

abbrev pub decreases-key_values : goal.decreases-key_values
decreases-key_values l = 4 * l.levels + 2

abbrev pub decreases-key_value : goal.decreases-key_value
decreases-key_value l = 4 * l.levels + 1
