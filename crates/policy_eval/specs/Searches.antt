-- What is known of the expressions of policies: regular expressions by their texts, conditions by what they are asked of and
-- their texts.
use Rattle.std.specs.Prelude.{ℕ, Bool, List, [], ◌∷◌, ◌++◌}
use Rattle.std.specs.List.{list_all}
use Rattle.expression.specs.Expressions as regular
use Rattle.ottl_text.specs.declared.expression.Context.{Context}
use Rattle.ottl_lists.specs.Texts as conditions
use Rattle.policy_tree.specs.declared.expressions.ExpressionKind.{ExpressionKind}
use Rattle.policy_tree.specs.declared.expressions.ExpressionKind.TheVariants.{Regular, Condition}
use Rattle.policy_tree.specs.declared.expressions.PolicyExpression.{PolicyExpression}

abbrev pub Known : Type 0
Known = List (List ℕ) × List (Context × List ℕ)

-- the expression of this kind and text is known
abbrev pub is_known_as : Known → ExpressionKind → (text : List ℕ) → Bool
is_known_as known Regular text = regular.is_known known.0 text
is_known_as known (Condition context) text = conditions.is_known known.1 context text

abbrev pub is_known : Known → PolicyExpression → Bool
is_known known e = is_known_as known e.kind e.text

-- each of the expressions is known
abbrev pub are_known : Known → List PolicyExpression → Bool
are_known known expressions = list_all (is_known known) expressions

-- one more is known
abbrev pub with_one : Known → ExpressionKind → (text : List ℕ) → Known
with_one known Regular text = (known.0 ++ text ∷ [], known.1)
with_one known (Condition context) text = (known.0, known.1 ++ (context, text) ∷ [])
