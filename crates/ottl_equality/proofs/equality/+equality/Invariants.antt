use Rattle.std.proofs.Common.{◌≡◌, drop}
use Rattle.std.specs.List.{list_all}
use Rattle.ottl_equality.specs.Equality.{lists_equal, is_among}
use Rattle.ottl_equality.proofs.equality.+equality.Given as goal

abbrev pub invariant-lists_equal-loop-value : goal.invariant-lists_equal-loop-value
invariant-lists_equal-loop-value l = lists_equal (drop l.value-index l.left) l.others ≡ lists_equal l.left l.right

abbrev pub invariant-maps_equal-loop-pair : goal.invariant-maps_equal-loop-pair
invariant-maps_equal-loop-pair l = list_all (λ p. is_among p l.right) (drop l.pair-index l.left) ≡ list_all (λ p. is_among p l.right) l.left
