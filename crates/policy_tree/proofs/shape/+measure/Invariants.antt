use Rattle.std.proofs.Common.{◌≡◌, ◌+◌, ◌^◌, ◌-◌, ◌≤◌, min, max, drop}
use Rattle.policy_tree.specs.Tree.{depth_in, nodes_in}
use Rattle.policy_tree.specs.Meaning.{meaning}
use Rattle.policy_tree.proofs.shape.+measure.Given as goal

abbrev pub invariant-measure_in-loop-policy : goal.invariant-measure_in-loop-policy
invariant-measure_in-loop-policy l = (l.levels ≤ 2 ^ 64 - 1)
    × (min (max l.levels (depth_in (meaning (drop l.policy-index l.list)))) (2 ^ 64 - 1) ≡ min (depth_in (meaning l.list)) (2 ^ 64 - 1))
    × (l.number ≤ 2 ^ 64 - 1)
    × (min (l.number + nodes_in (meaning (drop l.policy-index l.list))) (2 ^ 64 - 1) ≡ min (nodes_in (meaning l.list)) (2 ^ 64 - 1))
