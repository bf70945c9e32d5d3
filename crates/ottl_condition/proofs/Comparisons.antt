-- Comparisons by what they compare.
-- For evaluating::truth_on, literal_comparing::path_compared and literal_comparing::texts_compared.
use Rattle.std.proofs.Common.{◌≡◌, ℕ, true, List, [], ◌∷◌, Option, Some, None, Ok, Err, bytes_eq, refl, ◌∙◌}
use Rattle.std.specs.declared.cmp.Ordering.{Ordering}
use Rattle.std.specs.declared.cmp.Ordering.TheVariants.{Less, Equal, Greater}
use Rattle.std.specs.Ordering.{is_eq, nat_cmp}
use Rattle.std.specs.Cmp.Lexicographic.{slice_cmp}
use Rattle.std.proofs.lemmas.Map.Text.{is_eq-slice_cmp}
use Rattle.otlp_types.specs.declared.value.KeyValue.{KeyValue}
use Rattle.ottl_text.specs.declared.expression.Binary.{Binary}
use Rattle.ottl_text.specs.declared.expression.Binary.TheVariants as two
use Rattle.ottl_text.specs.declared.expression.Key.TheVariants as keys
use Rattle.ottl_text.specs.declared.expression.Literal.{Literal}
use Rattle.ottl_text.specs.declared.expression.Path.{Path}
use Rattle.ottl_text.specs.Syntax.{Term, literal, path, binary}
use Rattle.ottl_condition.specs.Subjects.{Subject}
use Rattle.ottl_condition.specs.Values.{Value, map, literal_value, Answer, ◌>>=◌, as_truth}
use Rattle.ottl_condition.specs.Paths.{pairs_in, look_up, or_nil, go_on, begun, walk}
use Rattle.ottl_condition.specs.Comparing.{is_equal, is_comparison, compared, comparison}
use Rattle.ottl_condition.specs.Meaning.{together, combined, value_on}

equal_if : (o : Ordering) → is_equal (Some o) ≡ is_eq o
equal_if Less = refl
equal_if Equal = refl
equal_if Greater = refl

-- two texts are equal where neither comes before the other
pub equal_texts : (s t : List ℕ) → is_equal (Some (slice_cmp nat_cmp s t)) ≡ bytes_eq s t
equal_texts s t = equal_if (slice_cmp nat_cmp s t) ∙ is_eq-slice_cmp s t

by_found : (b : Binary) (o : Option Value) (y : Value) → comparison b (go_on o (λ w. Ok w)) (Ok y) ≡ Ok (compared b (or_nil o) y)
by_found b None y = refl
by_found b (Some x) y = refl

-- what a key finds in a map is compared, or `nil`
pub key_compared : (b : Binary) (v : Value) (k : List ℕ) (ps : List KeyValue) (y : Value) → pairs_in v ≡ Some ps → comparison b (walk v (keys.Text k ∷ [])) (Ok y) ≡ Ok (compared b (or_nil (look_up k ps)) y)
key_compared b (map qs) k ps y e = let same : qs ≡ ps = cc in rw same (by_found b (look_up k ps) y)
key_compared b _ k ps y e = cc

comparison_together : (b : Binary) (l r : Answer Value) → is_comparison b ≡ true → (together b l r >>= as_truth) ≡ comparison b l r
unfolding combined
comparison_together two.Or l r h = cc
comparison_together two.And l r h = cc
comparison_together two.Add l r h = cc
comparison_together two.Subtract l r h = cc
comparison_together two.Multiply l r h = cc
comparison_together two.Divide l r h = cc
comparison_together two.HasPrefix l r h = cc
comparison_together two.HasSuffix l r h = cc
comparison_together b (Err e) r h = refl
comparison_together b (Ok x) (Err e) h = refl
comparison_together b (Ok x) (Ok y) h = refl

-- whether a path that is compared with a literal is true
pub path_beside_literal : (s : Subject) (t : Term) (b : Binary) (p : Path) (l : Literal) → is_comparison b ≡ true → t ≡ binary b (path p) (literal l) → (value_on s t >>= as_truth) ≡ comparison b (walk (begun p.root s) p.keys) (Ok (literal_value l))
path_beside_literal s t b p l h e = rw e (comparison_together b _ _ h)

-- what a key finds in a map, or `nil`
pub key_found : (v : Value) (k : List ℕ) (ps : List KeyValue) → pairs_in v ≡ Some ps → walk v (keys.Text k ∷ []) ≡ Ok (or_nil (look_up k ps))
key_found (map qs) k ps e = let same : qs ≡ ps = cc in rw same (or_found (look_up k ps))
  where
    or_found : (o : Option Value) → go_on o (λ w. Ok w) ≡ Ok (or_nil o)
    or_found None = refl
    or_found (Some x) = refl
key_found _ k ps e = cc
