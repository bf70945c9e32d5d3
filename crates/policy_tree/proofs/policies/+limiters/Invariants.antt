use Rattle.std.proofs.Common.{◌≡◌, ◌+◌, ◌++◌, drop}
use Rattle.policy_tree.specs.Tree.{nodes_in, limits_in}
use Rattle.policy_tree.specs.Meaning.{meaning}
use Rattle.policy_tree.proofs.policies.+limiters.Given as goal

abbrev pub invariant-put_limiters_in-loop-policy : goal.invariant-put_limiters_in-loop-policy
invariant-put_limiters_in-loop-policy l = (l.next + nodes_in (meaning (drop l.policy-index l.list)) ≡ l.node + nodes_in (meaning l.list)) × (l.found.items ++ limits_in (meaning (drop l.policy-index l.list)) l.next ≡ l.fn.found.items ++ limits_in (meaning l.list) l.node)
