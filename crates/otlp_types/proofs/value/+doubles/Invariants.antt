use Rattle.std.proofs.Common.{◌≡◌, false, take}
use Rattle.std.specs.List.{list_any}
use Rattle.otlp_types.specs.HoldsDouble.{holds_double, is_of_double}
use Rattle.otlp_types.proofs.value.+doubles.Given as goal

abbrev pub invariant-any_holds_double-loop-value : goal.invariant-any_holds_double-loop-value
invariant-any_holds_double-loop-value l = list_any holds_double (take l.value-index l.values) ≡ false

abbrev pub invariant-any_is_of_double-loop-pair : goal.invariant-any_is_of_double-loop-pair
invariant-any_is_of_double-loop-pair l = list_any is_of_double (take l.pair-index l.pairs) ≡ false
