use Rattle.std.proofs.Common.{◌≡◌, take}
use Rattle.policy_tree.proofs.policies.PoliciesTryClone.try_clone.Given as goal

abbrev pub invariant-loop-policy : goal.invariant-loop-policy
invariant-loop-policy l = l.list.items ≡ take l.policy-index l.policy-items
