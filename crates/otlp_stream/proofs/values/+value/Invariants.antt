use Rattle.std.proofs.Common.{◌+◌, ◌*◌, ◌-◌}
use Rattle.otlp_reading.specs.Kinds.{message}
use Rattle.otlp_reading.specs.Reading.{value_to, key_value}
use Rattle.otlp_stream.proofs.Sieving.{WithinSieved}
use Rattle.otlp_stream.proofs.values.+value.Given as goal

abbrev pub decreases-value_to : goal.decreases-value_to
decreases-value_to l = 6 * l.levels

abbrev pub decreases-value_by : goal.decreases-value_by
decreases-value_by l = 6 * l.levels + 4

abbrev pub decreases-array : goal.decreases-array
decreases-array l = 6 * l.levels + 3

abbrev pub decreases-kv_list : goal.decreases-kv_list
decreases-kv_list l = 6 * l.levels + 3

abbrev pub invariant-all_values-items : goal.invariant-all_values-items
invariant-all_values-items l = WithinSieved (value_to l.keeps_doubles l.levels) (l.depth - 1) l.initial.reader l.reader l.found

abbrev pub decreases-all_values : goal.decreases-all_values
decreases-all_values l = 6 * l.levels + 2

abbrev pub invariant-key_values-items : goal.invariant-key_values-items
invariant-key_values-items l = WithinSieved (message (key_value (value_to l.keeps_doubles l.levels))) (l.depth - 1) l.initial.reader l.reader l.found

abbrev pub decreases-key_values : goal.decreases-key_values
decreases-key_values l = 6 * l.levels + 2

abbrev pub decreases-pair : goal.decreases-pair
decreases-pair l = 6 * l.levels + 1
