use Rattle.std.proofs.Common.{◌≡◌, take}
use Rattle.policy_tree.proofs.policy.+clone.Given as goal

abbrev pub invariant-clone_policies-loop-policy : goal.invariant-clone_policies-loop-policy
invariant-clone_policies-loop-policy l = l.copy ≡ take l.policy-index l.policy-items
