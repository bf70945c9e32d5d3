-- What searches know of the expressions of policies, policy by policy.
use Rattle.std.proofs.Common.{◌≡◌, ℕ, ◌+◌, ◌<◌, Bool, true, false, ◌||◌, List, [], ◌∷◌, ◌++◌, length, drop, map, get_or, bytes_eq, refl, sym, ◌∙◌}
use Rattle.std.proofs.lemmas.Bool.{and_parts}
use Rattle.std.proofs.lemmas.List.Folds.{list_all-append, list_any-append}
use Rattle.std.proofs.lemmas.Slice.Eq.{bytes_eq-Decides}
use Rattle.expression.specs.Expressions as regular
use Rattle.ottl_text.specs.declared.expression.Context.{Context}
use Rattle.ottl_text.specs.declared.expression.Context.TheVariants.{Span, SpanEvent}
use Rattle.ottl_lists.specs.Texts as conditions
use Rattle.policy_tree.specs.declared.expressions.ExpressionKind.{ExpressionKind}
use Rattle.policy_tree.specs.declared.expressions.ExpressionKind.TheVariants.{Regular, Condition}
use Rattle.policy_eval.specs.Searches.{Known, is_known_as, is_known, are_known, with_one}
use Rattle.policy_tree.specs.declared.expressions.PolicyExpression.{PolicyExpression}
use Rattle.policy_tree.specs.declared.policy.Policy.{Policy as Named}
use Rattle.policy_tree.specs.Tree.{Policies}
use Rattle.policy_tree.specs.Expressions.{of_kind, expressions_of, expressions_in}
use Rattle.policy_tree.specs.Meaning.{meaning, policy_meaning}
use Rattle.policy_eval.proofs.Turns.{part_at}

-- the searches know the expressions of these policies
abbrev pub KnowsIn : (known : Known) → Policies → Type 0
KnowsIn known policies = are_known known (expressions_in policies) ≡ true

pub parts-known : (known : Known) (a b : List PolicyExpression) → are_known known (a ++ b) ≡ true → (are_known known a ≡ true) × (are_known known b ≡ true)
parts-known known a b h = and_parts (are_known known a) (are_known known b) (sym (list_all-append (is_known known) a b) ∙ h)

-- those of the policy at i, and of the others
pub known-at : (known : Known) (items : List Named) (i : ℕ) (p : Named) → i < length items → p ≡ get_or items i p → KnowsIn known (meaning (drop i items)) →
    (are_known known (expressions_of (policy_meaning p)) ≡ true) × KnowsIn known (meaning (drop (i + 1) items))
known-at known items i p h is k = parts-known known (expressions_of (policy_meaning p)) (expressions_in (meaning (drop (i + 1) items))) (part_at (KnowsIn known) items i p h is k)

-- the conditions of a leaf are known where their expressions are
conditions-known : (known : Known) (context : Context) (texts : List (List ℕ)) → are_known known (map (of_kind (Condition context)) texts) ≡ true → conditions.are_known known.1 context texts ≡ true
conditions-known known context [] h = refl
conditions-known known context (t ∷ texts) h =
    let parts = and_parts (conditions.is_known known.1 context t) (are_known known (map (of_kind (Condition context)) texts)) h in
    rw (parts.0, conditions-known known context texts parts.1) refl

pub on_span_known : (known : Known) (on_span on_event : List (List ℕ)) → are_known known (map (of_kind (Condition Span)) on_span ++ map (of_kind (Condition SpanEvent)) on_event) ≡ true → conditions.are_known known.1 Span on_span ≡ true
on_span_known known on_span on_event h = conditions-known known Span on_span (parts-known known (map (of_kind (Condition Span)) on_span) (map (of_kind (Condition SpanEvent)) on_event) h).0

pub on_event_known : (known : Known) (on_span on_event : List (List ℕ)) → are_known known (map (of_kind (Condition Span)) on_span ++ map (of_kind (Condition SpanEvent)) on_event) ≡ true → conditions.are_known known.1 SpanEvent on_event ≡ true
on_event_known known on_span on_event h = conditions-known known SpanEvent on_event (parts-known known (map (of_kind (Condition Span)) on_span) (map (of_kind (Condition SpanEvent)) on_event) h).1

-- ---- what is gathered is known

-- what is known behind these
abbrev pub gathered : Known → List PolicyExpression → Known
gathered known [] = known
gathered known (e ∷ more) = gathered (with_one known e.kind e.text) more

or-last : (a b : Bool) → b ≡ true → (a || b) ≡ true
or-last true b h = refl
or-last false b h = h

or-first : (a b : Bool) → a ≡ true → (a || b) ≡ true
or-first true b h = refl
or-first false b h = cc

kept-regular : (texts more : List (List ℕ)) (t : List ℕ) → regular.is_known texts t ≡ true → regular.is_known (texts ++ more) t ≡ true
kept-regular texts more t h = list_any-append (λ known. bytes_eq known t) texts more ∙ or-first (regular.is_known texts t) (regular.is_known more t) h

kept-conditions : (known more : List (Context × List ℕ)) (c : Context) (t : List ℕ) → conditions.is_known known c t ≡ true → conditions.is_known (known ++ more) c t ≡ true
kept-conditions known more c t h = list_any-append (λ k. conditions.is_the k c t) known more ∙ or-first (conditions.is_known known c t) (conditions.is_known more c t) h

kept-by-one : (known : Known) (of : ExpressionKind) (u : List ℕ) (kind : ExpressionKind) (t : List ℕ) → is_known_as known kind t ≡ true → is_known_as (with_one known of u) kind t ≡ true
kept-by-one known Regular u Regular t h = kept-regular known.0 (u ∷ []) t h
kept-by-one known Regular u (Condition c) t h = h
kept-by-one known (Condition d) u Regular t h = h
kept-by-one known (Condition d) u (Condition c) t h = kept-conditions known.1 ((d, u) ∷ []) c t h

kept : (known : Known) (more : List PolicyExpression) (e : PolicyExpression) → is_known known e ≡ true → is_known (gathered known more) e ≡ true
kept known [] e h = h
kept known (one ∷ more) e h = kept (with_one known one.kind one.text) more e (kept-by-one known one.kind one.text e.kind e.text h)

same-context : (c : Context) → conditions.is_same_context c c ≡ true
same-context Span = refl
same-context SpanEvent = refl

the-last : (known : Known) (kind : ExpressionKind) (t : List ℕ) → is_known_as (with_one known kind t) kind t ≡ true
the-last known Regular t = list_any-append (λ k. bytes_eq k t) known.0 (t ∷ []) ∙ or-last (regular.is_known known.0 t) (regular.is_known (t ∷ []) t) (rw ((bytes_eq-Decides t t).1 refl) refl)
the-last known (Condition c) t =
    list_any-append (λ k. conditions.is_the k c t) known.1 ((c, t) ∷ []) ∙ or-last (conditions.is_known known.1 c t) (conditions.is_known ((c, t) ∷ []) c t) (rw (same-context c, (bytes_eq-Decides t t).1 refl) refl)

all-kept : (known : Known) (more : List PolicyExpression) → are_known (gathered known more) more ≡ true
all-kept known [] = refl
all-kept known (e ∷ more) =
    rw (kept (with_one known e.kind e.text) more e (the-last known e.kind e.text), all-kept (with_one known e.kind e.text) more) refl

-- what was gathered of some expressions is known
pub gathered-known : (more : List PolicyExpression) → are_known (gathered ([], []) more) more ≡ true
gathered-known more = all-kept ([], []) more
