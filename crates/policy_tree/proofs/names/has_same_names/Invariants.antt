use Rattle.std.proofs.Common.{◌≡◌, map, length}
use Rattle.policy_tree.specs.Faults.{named, has_same_names}
use Rattle.policy_tree.proofs.names.has_same_names.Given as goal

abbrev pub invariant-loop-first : goal.invariant-loop-first
invariant-loop-first l = has_same_names (map named l.list) ≡ has_same_names (map named l.left)

abbrev pub decreases-loop-first : goal.decreases-loop-first
decreases-loop-first l = length l.left
