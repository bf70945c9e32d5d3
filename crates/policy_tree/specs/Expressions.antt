-- The regular expressions and the conditions of policies, by their texts.
use Rattle.std.specs.Prelude.{ℕ, List, [], ◌++◌, map}
use Rattle.ottl_text.specs.declared.expression.Context.TheVariants.{Span, SpanEvent}
use Rattle.policy_tree.specs.Tree.{Policy, Policies, leaf, limiting, joined, no_more, one_more}
use Rattle.policy_tree.specs.declared.policy.Leaf.{Leaf}
use Rattle.policy_tree.specs.declared.policy.Leaf.TheVariants as leaf_is
use Rattle.policy_tree.specs.declared.policy.Wanted.{Wanted}
use Rattle.policy_tree.specs.declared.policy.Wanted.TheVariants as wanted_is
use Rattle.policy_tree.specs.declared.expressions.ExpressionKind.{ExpressionKind}
use Rattle.policy_tree.specs.declared.expressions.ExpressionKind.TheVariants.{Regular, Condition}
use Rattle.policy_tree.specs.declared.expressions.PolicyExpression.{PolicyExpression}

-- the expression of this text
abbrev pub of_kind : ExpressionKind → (text : List ℕ) → PolicyExpression
of_kind kind text = record { kind = kind; text = text }

-- the expressions of which one has to match
abbrev pub expressions_wanted : Wanted → List PolicyExpression
expressions_wanted (wanted_is.StringMatching values) = map (of_kind Regular) values
expressions_wanted _ = []

-- the expressions of a leaf
abbrev pub expressions_of_leaf : Leaf → List PolicyExpression
expressions_of_leaf (leaf_is.Attribute key wanted invert) = expressions_wanted wanted
expressions_of_leaf (leaf_is.OttlCondition mode on_span on_event) = map (of_kind (Condition Span)) on_span ++ map (of_kind (Condition SpanEvent)) on_event
expressions_of_leaf _ = []

abbrev mutual
  -- the expressions of a policy, in the walk's order
  pub expressions_of : Policy → List PolicyExpression
  expressions_of (leaf l) = expressions_of_leaf l
  expressions_of (limiting limit) = []
  expressions_of (joined join parts) = expressions_in parts

  -- those of all of these
  pub expressions_in : Policies → List PolicyExpression
  expressions_in no_more = []
  expressions_in (one_more p rest) = expressions_of p ++ expressions_in rest
