-- Values that hold a double, one level at a time.
-- For AnyValue::holds_double, and for what is read where doubles are discarded.
use Rattle.std.proofs.Common.{◌≡◌, ℕ, List, [], ◌∷◌, map, Bool, true, false, ℤ, ◌||◌, refl, ap, ◌∙◌, rules}
use Rattle.std.specs.List.{list_any}
use Rattle.std.specs.Float.{Float}
use Rattle.otlp_types.specs.declared.value.AnyValue.{AnyValue, Empty, Str, Bool as Truth, Int, Double, Array, KvList, Bytes, the_lemmas}
use Rattle.otlp_types.specs.declared.value.KeyValue.{KeyValue}
use Rattle.otlp_types.specs.HoldsDouble.{holds_double, is_of_double}

-- which values hold a double
pub holds-Empty : holds_double Empty ≡ false
holds-Empty = search (rules, the_lemmas)

pub holds-Str : (s : List ℕ) → holds_double (Str s) ≡ false
holds-Str s = search (rules, the_lemmas)

pub holds-Truth : (b : Bool) → holds_double (Truth b) ≡ false
holds-Truth b = search (rules, the_lemmas)

pub holds-Int : (z : ℤ) → holds_double (Int z) ≡ false
holds-Int z = search (rules, the_lemmas)

pub holds-Double : (x : Float) → holds_double (Double x) ≡ true
holds-Double x = search (rules, the_lemmas)

pub holds-Bytes : (s : List ℕ) → holds_double (Bytes s) ≡ false
holds-Bytes s = search (rules, the_lemmas)

pub holds-pair : (p : KeyValue) → is_of_double p ≡ holds_double p.value
holds-pair p = search (rules, the_lemmas)

any_of : {A : Type 0} (f : A → Bool) (xs : List A) → list_any (λ b. b) (map f xs) ≡ list_any f xs
any_of f [] = refl
any_of f (x ∷ xs) = ap (λ b. f x || b) (any_of f xs)

pub holds-Array : (vs : List AnyValue) → holds_double (Array vs) ≡ list_any holds_double vs
holds-Array vs =
    let folded : holds_double (Array vs) ≡ list_any (λ b. b) (map holds_double vs) = search (rules, the_lemmas) in
    folded ∙ any_of holds_double vs

pub holds-KvList : (ps : List KeyValue) → holds_double (KvList ps) ≡ list_any is_of_double ps
holds-KvList ps =
    let folded : holds_double (KvList ps) ≡ list_any (λ b. b) (map is_of_double ps) = search (rules, the_lemmas) in
    folded ∙ any_of is_of_double ps
