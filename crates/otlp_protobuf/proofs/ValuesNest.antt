-- No value that is read nests deeper than the levels that it was given.
-- For decode, that no value nests too deep.
use Rattle.std.proofs.Common.{◌≡◌, ℕ, ℤ, zero, suc, List, [], ◌∷◌, Bool, Ok, Err, refl, sym, subst, pos, lit<, ◌⊎◌, inl, inr, rules}
use Rattle.std.specs.Prelude.{◌==◌}
use Rattle.std.specs.List.{All}
use Rattle.std.specs.Float.{Float}
use Rattle.std.proofs.lemmas.List.Elements.{All-cons, All-nil}
use Rattle.base64.specs.Engines.{standard}
use Rattle.base64.specs.GeneralPurpose.{encode_of}
use Rattle.protobuf_wire.specs.Wire.{Value, varint, fixed64, bytes, fixed32}
use Rattle.otlp_types.specs.declared.value.AnyValue.{AnyValue, out-AnyValue, Empty, Str, Bool as Truth, Int, Double, Array, KvList, Bytes, the_lemmas}
use Rattle.otlp_types.specs.declared.value.KeyValue.{KeyValue}
use Rattle.otlp_protobuf.specs.Kinds.{Read, text, truth, int64, double, merged}
use Rattle.otlp_protobuf.specs.Values.{items_in, pairs_in, no_pair, array_by, array_step, pair_by, pair_step, pair_of, list_by, list_step, value_by, value_step, value_to}
use Rattle.otlp_protobuf.specs.Nesting.{NestsAtMost, AttributeNests, AttributesNest}
use Rattle.otlp_protobuf.proofs.Yields.{Yields, Keeps, yields_if, yields_map, yields_all, yields_merged, yields_last}

-- ---- values by their kinds

lists_none : (n : ℕ) (v : AnyValue) → items_in (out-AnyValue v) ≡ [] → pairs_in (out-AnyValue v) ≡ [] → NestsAtMost (suc n) v
unfolding NestsAtMost
lists_none n v e f =
    let P : List AnyValue → Type 0 = All (NestsAtMost n) in
    let Q : List KeyValue → Type 0 = AttributesNest n in
    (subst P (sym e) (All-nil (NestsAtMost n)), subst Q (sym f) (All-nil (AttributeNests n)))

nests-Empty : (n : ℕ) → NestsAtMost (suc n) Empty
nests-Empty n = lists_none n Empty (search (rules, the_lemmas)) (search (rules, the_lemmas))

nests-Str : (n : ℕ) (s : List ℕ) → NestsAtMost (suc n) (Str s)
nests-Str n s = lists_none n (Str s) (search (rules, the_lemmas)) (search (rules, the_lemmas))

nests-Truth : (n : ℕ) (b : Bool) → NestsAtMost (suc n) (Truth b)
nests-Truth n b = lists_none n (Truth b) (search (rules, the_lemmas)) (search (rules, the_lemmas))

nests-Int : (n : ℕ) (z : ℤ) → NestsAtMost (suc n) (Int z)
nests-Int n z = lists_none n (Int z) (search (rules, the_lemmas)) (search (rules, the_lemmas))

nests-Double : (n : ℕ) (x : Float) → NestsAtMost (suc n) (Double x)
nests-Double n x = lists_none n (Double x) (search (rules, the_lemmas)) (search (rules, the_lemmas))

nests-Bytes : (n : ℕ) (s : List ℕ) → NestsAtMost (suc n) (Bytes s)
nests-Bytes n s = lists_none n (Bytes s) (search (rules, the_lemmas)) (search (rules, the_lemmas))

items_of_array : (vs : List AnyValue) → items_in (out-AnyValue (Array vs)) ≡ vs
items_of_array vs = search (rules, the_lemmas)

pairs_of_array : (vs : List AnyValue) → pairs_in (out-AnyValue (Array vs)) ≡ []
pairs_of_array vs = search (rules, the_lemmas)

items_of_list : (ps : List KeyValue) → items_in (out-AnyValue (KvList ps)) ≡ []
items_of_list ps = search (rules, the_lemmas)

pairs_of_list : (ps : List KeyValue) → pairs_in (out-AnyValue (KvList ps)) ≡ ps
pairs_of_list ps = search (rules, the_lemmas)

nests-Array : (n : ℕ) (vs : List AnyValue) → All (NestsAtMost n) vs → NestsAtMost (suc n) (Array vs)
unfolding NestsAtMost
nests-Array n vs h =
    let P : List AnyValue → Type 0 = All (NestsAtMost n) in
    let Q : List KeyValue → Type 0 = AttributesNest n in
    (subst P (sym (items_of_array vs)) h, subst Q (sym (pairs_of_array vs)) (All-nil (AttributeNests n)))

nests-KvList : (n : ℕ) (ps : List KeyValue) → AttributesNest n ps → NestsAtMost (suc n) (KvList ps)
unfolding NestsAtMost
nests-KvList n ps h =
    let P : List AnyValue → Type 0 = All (NestsAtMost n) in
    let Q : List KeyValue → Type 0 = AttributesNest n in
    (subst P (sym (items_of_list ps)) (All-nil (NestsAtMost n)), subst Q (sym (pairs_of_list ps)) h)

items_nest : (n : ℕ) (v : AnyValue) → NestsAtMost (suc n) v → All (NestsAtMost n) (items_in (out-AnyValue v))
unfolding NestsAtMost
items_nest n v h = h.0

pairs_nest : (n : ℕ) (v : AnyValue) → NestsAtMost (suc n) v → AttributesNest n (pairs_in (out-AnyValue v))
unfolding NestsAtMost
pairs_nest n v h = h.1

-- ---- what is read

-- what a value inside is made of
abbrev Inside : ℕ → (AnyValue → List ℕ → Read AnyValue) → Type 0
Inside n value = (v : AnyValue) (s : List ℕ) → (v ≡ Empty) ⊎ NestsAtMost n v → Yields (NestsAtMost n) (value v s)

array_with : (n : ℕ) (value : AnyValue → List ℕ → Read AnyValue) → Inside n value → (vs : List AnyValue) (k : ℕ) (x : Value) → All (NestsAtMost n) vs → Yields (All (NestsAtMost n)) (array_by value vs k x)
array_with n value inside vs k (bytes s) h =
    yields_if (All (NestsAtMost n)) (k == 1) _ _ (yields_last (NestsAtMost n) vs (value Empty s) h (inside Empty s (inl refl))) h
array_with n value inside vs k (varint x) h = h
array_with n value inside vs k (fixed64 x) h = h
array_with n value inside vs k (fixed32 x) h = h

array_keeps : (n : ℕ) (value : AnyValue → List ℕ → Read AnyValue) → Inside n value → Keeps (All (NestsAtMost n)) (array_step value)
array_keeps n value inside vs f h = array_with n value inside vs (f.number) (f.value) h

with_value : (n : ℕ) (k : List ℕ) (r : Read AnyValue) → Yields (NestsAtMost n) r → Yields (λ v. AttributeNests n (record { key = k; value = v })) r
with_value n k (Ok v) h = inr h
with_value n k (Err e) h = tt

pair_with : (n : ℕ) (value : AnyValue → List ℕ → Read AnyValue) → Inside n value → (p : KeyValue) (k : ℕ) (x : Value) → AttributeNests n p → Yields (AttributeNests n) (pair_by value p k x)
pair_with n value inside p k (bytes s) h =
    yields_if (AttributeNests n) (k == 1) _ _ (yields_all (AttributeNests n) (λ k. record { key = k; value = p.value }) (text s) (λ k. h))
    (yields_if (AttributeNests n) (k == 2) _ _
    (yields_map (AttributeNests n) (λ v. record { key = p.key; value = v }) (value p.value s) (with_value n p.key (value p.value s) (inside p.value s h))) h)
pair_with n value inside p k (varint x) h = h
pair_with n value inside p k (fixed64 x) h = h
pair_with n value inside p k (fixed32 x) h = h

pair_keeps : (n : ℕ) (value : AnyValue → List ℕ → Read AnyValue) → Inside n value → Keeps (AttributeNests n) (pair_step value)
pair_keeps n value inside p f h = pair_with n value inside p (f.number) (f.value) h

pub pair_nests : (n : ℕ) (value : AnyValue → List ℕ → Read AnyValue) → Inside n value → (s : List ℕ) → Yields (AttributeNests n) (pair_of value s)
pair_nests n value inside s = yields_merged (AttributeNests n) (pair_step value) no_pair s (pair_keeps n value inside) (inl refl)

list_with : (n : ℕ) (value : AnyValue → List ℕ → Read AnyValue) → Inside n value → (ps : List KeyValue) (k : ℕ) (x : Value) → AttributesNest n ps → Yields (AttributesNest n) (list_by value ps k x)
list_with n value inside ps k (bytes s) h =
    yields_if (AttributesNest n) (k == 1) _ _ (yields_last (AttributeNests n) ps (pair_of value s) h (pair_nests n value inside s)) h
list_with n value inside ps k (varint x) h = h
list_with n value inside ps k (fixed64 x) h = h
list_with n value inside ps k (fixed32 x) h = h

list_keeps : (n : ℕ) (value : AnyValue → List ℕ → Read AnyValue) → Inside n value → Keeps (AttributesNest n) (list_step value)
list_keeps n value inside ps f h = list_with n value inside ps (f.number) (f.value) h

as_array : (n : ℕ) (r : Read (List AnyValue)) → Yields (All (NestsAtMost n)) r → Yields (λ vs. NestsAtMost (suc n) (Array vs)) r
as_array n (Ok vs) h = nests-Array n vs h
as_array n (Err e) h = tt

as_list : (n : ℕ) (r : Read (List KeyValue)) → Yields (AttributesNest n) r → Yields (λ ps. NestsAtMost (suc n) (KvList ps)) r
as_list n (Ok ps) h = nests-KvList n ps h
as_list n (Err e) h = tt

value_with : (n : ℕ) (value : AnyValue → List ℕ → Read AnyValue) → Inside n value → (v : AnyValue) (k : ℕ) (x : Value) → NestsAtMost (suc n) v → Yields (NestsAtMost (suc n)) (value_by value v k x)
value_with n value inside v k (bytes s) h =
    let P : AnyValue → Type 0 = NestsAtMost (suc n) in
    let vs : Read (List AnyValue) = merged (array_step value) (items_in (out-AnyValue v)) s in
    let ps : Read (List KeyValue) = merged (list_step value) (pairs_in (out-AnyValue v)) s in
    yields_if P (k == 1) _ _ (yields_all P Str (text s) (nests-Str n))
    (yields_if P (k == 5) _ _
    (yields_map P Array vs (as_array n vs (yields_merged (All (NestsAtMost n)) (array_step value) _ s (array_keeps n value inside) (items_nest n v h))))
    (yields_if P (k == 6) _ _
    (yields_map P KvList ps (as_list n ps (yields_merged (AttributesNest n) (list_step value) _ s (list_keeps n value inside) (pairs_nest n v h))))
    (yields_if P (k == 7) (Ok (Bytes (encode_of standard s))) (Ok v) (nests-Bytes n (encode_of standard s)) h)))
value_with n value inside v k (varint x) h =
    let P : AnyValue → Type 0 = NestsAtMost (suc n) in
    yields_if P (k == 2) (Ok (Truth (truth x))) _ (nests-Truth n (truth x)) (yields_if P (k == 3) (Ok (Int (int64 x))) (Ok v) (nests-Int n (int64 x)) h)
value_with n value inside v k (fixed64 x) h = yields_if (NestsAtMost (suc n)) (k == 4) (Ok (Double (double x))) (Ok v) (nests-Double n (double x)) h
value_with n value inside v k (fixed32 x) h = h

value_keeps : (n : ℕ) (value : AnyValue → List ℕ → Read AnyValue) → Inside n value → Keeps (NestsAtMost (suc n)) (value_step value)
value_keeps n value inside v f h = value_with n value inside v (f.number) (f.value) h

at_most : (n : ℕ) (v : AnyValue) → (v ≡ Empty) ⊎ NestsAtMost (suc n) v → NestsAtMost (suc n) v
at_most n v (inl e) = let P : AnyValue → Type 0 = NestsAtMost (suc n) in subst P (sym e) (nests-Empty n)
at_most n v (inr h) = h

pub value_nests : (n : ℕ) → Inside n (value_to n)
unfolding value_to
value_nests zero v s h = tt
value_nests (suc n) v s h = yields_merged (NestsAtMost (suc n)) (value_step (value_to n)) v s (value_keeps n (value_to n) (value_nests n)) (at_most n v h)

-- ---- rows of the definition

not_one_level : NestsAtMost 1 (Array (Int (pos 7) ∷ [])) → ⊥
unfolding NestsAtMost
not_one_level h = let P : List AnyValue → Type 0 = All (NestsAtMost 0) in subst P (items_of_array (Int (pos 7) ∷ [])) h.0 0 Empty (lit< tt)

-- a pair without a value takes no level of its own
one_level : NestsAtMost 1 (KvList (record { key = 107 ∷ []; value = Empty } ∷ []))
one_level = nests-KvList 0 _ (All-cons (AttributeNests 0) _ [] (inl refl) (All-nil (AttributeNests 0)))
