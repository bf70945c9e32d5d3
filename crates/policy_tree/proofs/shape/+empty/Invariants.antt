use Rattle.std.proofs.Common.{◌≡◌, false, drop}
use Rattle.policy_tree.specs.Tree.{is_empty, has_empty_inside_in}
use Rattle.policy_tree.specs.Meaning.{meaning}
use Rattle.policy_tree.proofs.shape.+empty.Given as goal

abbrev pub invariant-has_empty_list-loop-policy : goal.invariant-has_empty_list-loop-policy
invariant-has_empty_list-loop-policy l = (is_empty (meaning l.list) ≡ false) × (has_empty_inside_in (meaning (drop l.policy-index l.list)) ≡ has_empty_inside_in (meaning l.list))
