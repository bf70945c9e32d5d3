use Rattle.std.proofs.Common.{◌≡◌, drop}
use Rattle.ottl_equality.specs.Equality.{pair_of}
use Rattle.ottl_equality.proofs.equality.pair_of.Given as goal

abbrev pub invariant-loop-pair : goal.invariant-loop-pair
invariant-loop-pair l = pair_of l.key (drop l.pair-index l.pairs) ≡ pair_of l.key l.pairs
