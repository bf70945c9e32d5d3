-- Values that are equal, one level at a time.
-- For equality::equal and equality::is_among.
use Rattle.std.proofs.Common.{◌≡◌, List, [], ◌∷◌, map, length, suc, ◌&&◌, refl, ap, ◌∙◌, rules}
use Rattle.std.specs.Prelude.{◌==◌}
use Rattle.std.specs.List.{list_all}
use Rattle.std.specs.Cmp.Lexicographic.{pointwise}
use Rattle.otlp_types.specs.declared.value.AnyValue.{AnyValue, Array, KvList, the_lemmas}
use Rattle.otlp_types.specs.declared.value.KeyValue.{KeyValue}
use Rattle.ottl_equality.specs.Equality.{equal, is_among, lists_equal, maps_equal}

by_tests : (vs ws : List AnyValue) → pointwise (λ test w. test w) (map equal vs) ws ≡ lists_equal vs ws
by_tests [] [] = refl
by_tests [] (w ∷ ws) = refl
by_tests (v ∷ vs) [] = refl
by_tests (v ∷ vs) (w ∷ ws) = ap (λ b. equal v w && b) (by_tests vs ws)

pub equal-lists : (vs ws : List AnyValue) → equal (Array vs) (Array ws) ≡ lists_equal vs ws
equal-lists vs ws =
    let folded : equal (Array vs) (Array ws) ≡ pointwise (λ test w. test w) (map equal vs) ws = search (rules, the_lemmas) in
    folded ∙ by_tests vs ws

all_tests : (ps qs : List KeyValue) → list_all (λ test. test qs) (map is_among ps) ≡ list_all (λ p. is_among p qs) ps
all_tests [] qs = refl
all_tests (p ∷ ps) qs = ap (λ b. is_among p qs && b) (all_tests ps qs)

as_long : {A B : Type 0} (f : A → B) (xs : List A) → length (map f xs) ≡ length xs
as_long f [] = refl
as_long f (x ∷ xs) = ap (λ n. suc n) (as_long f xs)

pub equal-maps : (ps qs : List KeyValue) → equal (KvList ps) (KvList qs) ≡ maps_equal ps qs
equal-maps ps qs =
    let folded : equal (KvList ps) (KvList qs) ≡ ((length (map is_among ps) == length qs) && list_all (λ test. test qs) (map is_among ps)) = search (rules, the_lemmas) in
    folded ∙ ap (λ n. (n == length qs) && list_all (λ test. test qs) (map is_among ps)) (as_long is_among ps) ∙ ap (λ b. (length ps == length qs) && b) (all_tests ps qs)
