use Rattle.std.proofs.Common.{◌≡◌, ◌++◌, drop}
use Rattle.policy_tree.specs.Expressions.{expressions_in}
use Rattle.policy_tree.specs.Meaning.{meaning}
use Rattle.policy_tree.proofs.expressions.+expressions.Given as goal

abbrev pub invariant-put_expressions_in-loop-policy : goal.invariant-put_expressions_in-loop-policy
invariant-put_expressions_in-loop-policy l = l.found ++ expressions_in (meaning (drop l.policy-index l.list)) ≡ l.fn.found ++ expressions_in (meaning l.list)
