use Rattle.std.proofs.Common.{◌≡◌, drop}
use Rattle.policy_tree.specs.Tree.{some_leaf_in}
use Rattle.policy_tree.specs.Faults.{has_leaf_fault}
use Rattle.policy_tree.specs.Meaning.{meaning}
use Rattle.policy_tree.proofs.leaves.+leaves.Given as goal

abbrev pub invariant-some_has_fault-loop-policy : goal.invariant-some_has_fault-loop-policy
invariant-some_has_fault-loop-policy l = some_leaf_in (has_leaf_fault l.fault) (meaning (drop l.policy-index l.list)) ≡ some_leaf_in (has_leaf_fault l.fault) (meaning l.list)
