use Rattle.std.proofs.Common.{◌≡◌, true, drop, map}
use Rattle.policy_tree.specs.declared.expressions.ExpressionKind.TheVariants.{Regular}
use Rattle.policy_tree.specs.Expressions.{of_kind}
use Rattle.policy_eval.specs.Searches.{are_known}
use Rattle.policy_eval.specs.Policies.{is_matched}
use Rattle.policy_eval.proofs.attribute.is_matched.Given as goal

abbrev pub invariant-loop-expression : goal.invariant-loop-expression
invariant-loop-expression l = (is_matched (drop l.expression-index l.expressions) l.text ≡ is_matched l.expressions l.text) × (l.searches ≡ l.fn.searches) × (are_known l.searches (map (of_kind Regular) (drop l.expression-index l.expressions)) ≡ true)
