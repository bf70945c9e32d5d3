use Rattle.std.proofs.Common.{◌≡◌, ◌++◌, drop}
use Rattle.ottl_condition.proofs.searching.searches_for.Given as goal

abbrev pub invariant-loop-pattern : goal.invariant-loop-pattern
invariant-loop-pattern l = l.searches ++ drop l.pattern-index l.pattern-items ≡ l.pattern-items
