use Rattle.std.proofs.Common.{◌+◌, ◌*◌, codes, length}
use Rattle.otlp_protobuf_encode.specs.Writing as wire
use Rattle.otlp_json.specs.Writing.{value_fields, pair_fields}
use Rattle.span_block.specs.Typed.{ValueIsTyped, PairIsTyped}
use Rattle.block_json.proofs.Lists.{SoFar}
use Rattle.block_json.proofs.values.+value.Given as goal

abbrev pub decreases-pairs : goal.decreases-pairs
decreases-pairs g l = 11 * l.levels + 6

abbrev pub decreases-pair : goal.decreases-pair
decreases-pair g l = 11 * l.levels + 5

abbrev pub decreases-set_value : goal.decreases-set_value
decreases-set_value g l = 11 * l.levels + 4

abbrev pub decreases-value : goal.decreases-value
decreases-value g l = 11 * l.levels + 3

abbrev pub decreases-value_of : goal.decreases-value_of
decreases-value_of g l = 11 * l.levels + 10

abbrev pub decreases-array : goal.decreases-array
decreases-array g l = 11 * l.levels + 9

abbrev pub decreases-list_of_pairs : goal.decreases-list_of_pairs
decreases-list_of_pairs g l = 11 * l.levels + 9

abbrev pub decreases-values : goal.decreases-values
decreases-values g l = 11 * l.levels + 8

abbrev pub invariant-pairs-items : goal.invariant-pairs-items
invariant-pairs-items g l = SoFar g.S.TokenSink.adds wire.pair_fields (PairIsTyped l.levels) pair_fields l.name l.number l.message l.items.rest.now l.fn.out l.out

abbrev pub decreases-pairs-items : goal.decreases-pairs-items
decreases-pairs-items g l = length l.items.rest.now

abbrev pub invariant-values-items : goal.invariant-values-items
invariant-values-items g l = SoFar g.S.TokenSink.adds wire.value_fields (ValueIsTyped l.levels) value_fields (codes "values") 1 l.message l.items.rest.now l.fn.out l.out

abbrev pub decreases-values-items : goal.decreases-values-items
decreases-values-items g l = length l.items.rest.now
