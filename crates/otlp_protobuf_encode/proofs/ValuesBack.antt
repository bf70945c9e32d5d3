-- A value that is written is read as itself.
-- For the cycle of value.rt.
use Rattle.std.proofs.Common.{◌≡◌, ℕ, zero, suc, ◌<◌, ◌^◌, ℤ, List, [], ◌∷◌, ◌++◌, map, unwrap_or, Bool, Ok, inl, inr, to_bits, refl, sym, ◌∙◌, ap, subst, lit<, rules}
use Rattle.std.specs.Prelude.{FitsSigned}
use Rattle.std.specs.Int.{w64}
use Rattle.std.specs.List.{All, AllByRecursion}
use Rattle.std.specs.Float.{Float, binary64}
use Rattle.std.specs.Float.Ieee.{of_bits}
use Rattle.std.specs.Str.{IsUtf8}
use Rattle.std.proofs.lemmas.List.Elements.{All-head, All-tail}
use Rattle.base64.specs.Engines.{standard}
use Rattle.base64.specs.GeneralPurpose.{encode_of}
use Rattle.protobuf_wire.specs.Wire.{Field, bytes}
use Rattle.protobuf_writer.specs.Writing.{message_bytes}
use Rattle.protobuf_writer.specs.Defaults.{field, text_field, message_in, message_field, repeated}
use Rattle.otlp_types.specs.declared.value.AnyValue.{AnyValue, out-AnyValue, Empty, Str, Bool as Truth, Int, Double, Array, KvList, Bytes, the_lemmas}
use Rattle.otlp_types.specs.declared.value.KeyValue.{KeyValue}
use Rattle.otlp_protobuf.specs.Kinds.{Read, map_read, merged_in, merged}
use Rattle.otlp_protobuf.specs.Laws.{fold_fields}
use Rattle.otlp_protobuf.specs.Values.{items_in, pairs_in, array_step, pair_step, no_pair, pair_of, list_step, value_step, value_to}
use Rattle.otlp_protobuf.specs.Nesting.{NestsAtMost, AttributeNests, AttributesNest}
use Rattle.otlp_protobuf_encode.specs.Writing.{base64_of, value_fields, pair_fields}
use Rattle.otlp_protobuf_encode.specs.ReadsBack.{HasRoom, ValueReadsBack, PairReadsBack}
use Rattle.otlp_protobuf_encode.proofs.NumbersBack.{int64-back, bits64, truth-back, truth_small}
use Rattle.otlp_protobuf_encode.proofs.FieldsBack.{Reads, after, merged-again, single, single-bytes, text-again, text-back, EachRead, list-back, message-back}
use Rattle.otlp_protobuf_encode.proofs.Values.{fields-Empty, fields-Str, fields-Truth, fields-Int, fields-Double, fields-Array, fields-KvList, fields-Bytes, fields-pair}

-- ---- what is inside

no_items : items_in (out-AnyValue Empty) ≡ []
no_items = search (rules, the_lemmas)

no_pairs : pairs_in (out-AnyValue Empty) ≡ []
no_pairs = search (rules, the_lemmas)

items_of_array : (vs : List AnyValue) → items_in (out-AnyValue (Array vs)) ≡ vs
items_of_array vs = search (rules, the_lemmas)

pairs_of_list : (ps : List KeyValue) → pairs_in (out-AnyValue (KvList ps)) ≡ ps
pairs_of_list ps = search (rules, the_lemmas)

items_nest : (n : ℕ) (vs : List AnyValue) → NestsAtMost (suc n) (Array vs) → All (NestsAtMost n) vs
unfolding NestsAtMost
items_nest n vs h = subst (All (NestsAtMost n)) (items_of_array vs) h.0

pairs_nest : (n : ℕ) (ps : List KeyValue) → NestsAtMost (suc n) (KvList ps) → AttributesNest n ps
unfolding NestsAtMost
pairs_nest n ps h = subst (AttributesNest n) (pairs_of_list ps) h.1

each_value : (n : ℕ) (vs : List AnyValue) → All (NestsAtMost n) vs → AllByRecursion ValueReadsBack vs → EachRead value_fields (value_to n Empty) vs
each_value n [] nest back = tt
each_value n (v ∷ vs) nest back = (back.0.again n (All-head (NestsAtMost n) v vs nest), each_value n vs (All-tail (NestsAtMost n) v vs nest) back.1)

pub each_pair : (n : ℕ) (ps : List KeyValue) → AttributesNest n ps → AllByRecursion PairReadsBack ps → EachRead pair_fields (pair_of (value_to n)) ps
each_pair n [] nest back = tt
each_pair n (p ∷ ps) nest back = (back.0.again n (All-head (AttributeNests n) p ps nest), each_pair n ps (All-tail (AttributeNests n) p ps nest) back.1)

-- ---- one level of a value

again_at : (v : AnyValue) (fs : List Field) → value_fields v ≡ fs → ((n : ℕ) → NestsAtMost (suc n) v → Reads (value_step (value_to n)) Empty v fs)
    → (n : ℕ) → NestsAtMost n v → HasRoom (value_fields v) → value_to n Empty (message_bytes (value_fields v)) ≡ Ok v
unfolding NestsAtMost value_to
again_at v fs e h zero nests room = absurd nests
again_at v fs e h (suc n) nests room =
    let P : List Field → Type 0 = λ gs. HasRoom gs → value_to (suc n) Empty (message_bytes gs) ≡ Ok v in
    subst P (sym e) (λ here. merged-again (value_step (value_to n)) Empty v fs (h n nests) here) room

value-back : (v : AnyValue) (fs : List Field) → value_fields v ≡ fs → ((n : ℕ) → NestsAtMost (suc n) v → Reads (value_step (value_to n)) Empty v fs) → ValueReadsBack v
value-back v fs e h = record { again = again_at v fs e h }

none_at : (n : ℕ) → Reads (value_step (value_to n)) Empty Empty []
unfolding fold_fields
none_at n = record { fits = λ room. tt; folds = λ room. refl }

pub empty-back : ValueReadsBack Empty
empty-back = value-back Empty [] fields-Empty (λ n nests. none_at n)

pub str-back : (s : List ℕ) → IsUtf8 s → ValueReadsBack (Str s)
str-back s utf8 =
    value-back (Str s) (field 1 (bytes s) ∷ []) (fields-Str s)
    (λ n nests. single-bytes (value_step (value_to n)) Empty (Str s) 1 s (lit< tt, lit< tt) (λ room. ap (map_read Str) (text-again s utf8)))

pub truth-value-back : (b : Bool) → ValueReadsBack (Truth b)
truth-value-back b =
    value-back (Truth b) _ (fields-Truth b)
    (λ n nests. single (value_step (value_to n)) Empty (Truth b) 2 _ (lit< tt, lit< tt) (λ room. truth_small b) (λ room. ap (λ t. Ok (Truth t)) (truth-back b)))

pub int-back : (z : ℤ) → FitsSigned w64 z → ValueReadsBack (Int z)
int-back z fits =
    value-back (Int z) _ (fields-Int z)
    (λ n nests. single (value_step (value_to n)) Empty (Int z) 3 _ (lit< tt, lit< tt) (λ room. bits64 z fits) (λ room. ap (λ t. Ok (Int t)) (int64-back z fits)))

pub double-back : (x : Float) → to_bits binary64 x < 2 ^ 64 → of_bits binary64 (to_bits binary64 x) ≡ x → ValueReadsBack (Double x)
double-back x small again =
    value-back (Double x) _ (fields-Double x)
    (λ n nests. single (value_step (value_to n)) Empty (Double x) 4 _ (lit< tt, lit< tt) (λ room. small) (λ room. ap (λ t. Ok (Double t)) again))

pub bytes-value-back : (s : List ℕ) → encode_of standard (unwrap_or (base64_of s) []) ≡ s → ValueReadsBack (Bytes s)
bytes-value-back s again =
    value-back (Bytes s) _ (fields-Bytes s)
    (λ n nests. single-bytes (value_step (value_to n)) Empty (Bytes s) 7 (unwrap_or (base64_of s) []) (lit< tt, lit< tt) (λ room. ap (λ t. Ok (Bytes t)) again))

array_again : (n : ℕ) (vs : List AnyValue) → All (NestsAtMost n) vs → AllByRecursion ValueReadsBack vs → HasRoom (repeated 1 (map value_fields vs))
    → value_step (value_to n) Empty (message_in 5 (repeated 1 (map value_fields vs))) ≡ Ok (Array vs)
array_again n vs nest back room =
    let step : List AnyValue → Field → Read (List AnyValue) = array_step (value_to n) in
    let s : List ℕ = message_bytes (repeated 1 (map value_fields vs)) in
    ap (λ ys. map_read Array (merged step ys s)) no_items
    ∙ ap (map_read Array)
    (merged-again step [] vs (repeated 1 (map value_fields vs))
    (list-back step (λ ys. ys) 1 value_fields (value_to n Empty) [] vs (lit< tt, lit< tt) (each_value n vs nest back) (λ ys t x e. ap (map_read (λ v. ys ++ v ∷ [])) e)) room)

pub array-back : (vs : List AnyValue) → AllByRecursion ValueReadsBack vs → ValueReadsBack (Array vs)
array-back vs back =
    value-back (Array vs) _ (fields-Array vs)
    (λ n nests. single-bytes (value_step (value_to n)) Empty (Array vs) 5 (message_bytes (repeated 1 (map value_fields vs))) (lit< tt, lit< tt) (λ room. array_again n vs (items_nest n vs nests) back room))

kv_list_again : (n : ℕ) (ps : List KeyValue) → AttributesNest n ps → AllByRecursion PairReadsBack ps → HasRoom (repeated 1 (map pair_fields ps))
    → value_step (value_to n) Empty (message_in 6 (repeated 1 (map pair_fields ps))) ≡ Ok (KvList ps)
kv_list_again n ps nest back room =
    let step : List KeyValue → Field → Read (List KeyValue) = list_step (value_to n) in
    let s : List ℕ = message_bytes (repeated 1 (map pair_fields ps)) in
    ap (λ ys. map_read KvList (merged step ys s)) no_pairs
    ∙ ap (map_read KvList)
    (merged-again step [] ps (repeated 1 (map pair_fields ps))
    (list-back step (λ ys. ys) 1 pair_fields (pair_of (value_to n)) [] ps (lit< tt, lit< tt) (each_pair n ps nest back) (λ ys t x e. ap (map_read (λ p. ys ++ p ∷ [])) e)) room)

pub kv_list-back : (ps : List KeyValue) → AllByRecursion PairReadsBack ps → ValueReadsBack (KvList ps)
kv_list-back ps back =
    value-back (KvList ps) _ (fields-KvList ps)
    (λ n nests. single-bytes (value_step (value_to n)) Empty (KvList ps) 6 (message_bytes (repeated 1 (map pair_fields ps))) (lit< tt, lit< tt) (λ room. kv_list_again n ps (pairs_nest n ps nests) back room))

-- ---- pairs

abbrev keyed : List ℕ → KeyValue
keyed k = record { key = k; value = Empty }

key_read : (n : ℕ) (k : List ℕ) → IsUtf8 k → Reads (pair_step (value_to n)) no_pair (keyed k) (text_field 1 k)
key_read n k utf8 = text-back (pair_step (value_to n)) keyed 1 k (lit< tt, lit< tt) utf8 (λ t. refl)

empty_read : (n : ℕ) → value_to (suc n) Empty [] ≡ Ok Empty
unfolding value_to merged_in
empty_read n = refl

-- the value of a pair, where it nests in so many levels
set_read : (n : ℕ) (p : KeyValue) → NestsAtMost n p.value → ValueReadsBack p.value → Reads (pair_step (value_to n)) (keyed p.key) p (message_field 2 (value_fields p.value))
unfolding NestsAtMost
set_read zero p nests back = absurd nests
set_read (suc n) p nests back =
    message-back (pair_step (value_to (suc n))) (λ v. record { key = p.key; value = v }) 2 (value_fields p.value) (value_to (suc n) Empty) Empty p.value (lit< tt, lit< tt) (empty_read n) (back.again (suc n) nests)
    (λ s y e. ap (map_read (λ v. record { key = p.key; value = v })) e)

unset_read : (n : ℕ) (p : KeyValue) → p.value ≡ Empty → Reads (pair_step (value_to n)) (keyed p.key) p (message_field 2 (value_fields p.value))
unfolding fold_fields
unset_read n p e =
    let P : AnyValue → Type 0 = λ v. Reads (pair_step (value_to n)) (keyed p.key) (record { key = p.key; value = v }) (message_field 2 (value_fields v)) in
    let Q : List Field → Type 0 = λ fs. Reads (pair_step (value_to n)) (keyed p.key) (keyed p.key) (message_field 2 fs) in
    subst P (sym e) (subst Q (sym fields-Empty) (record { fits = λ room. tt; folds = λ room. refl }))

value_read : (n : ℕ) (p : KeyValue) → AttributeNests n p → ValueReadsBack p.value → Reads (pair_step (value_to n)) (keyed p.key) p (message_field 2 (value_fields p.value))
value_read n p (inl e) back = unset_read n p e
value_read n p (inr nests) back = set_read n p nests back

pub pair-back : (p : KeyValue) → IsUtf8 p.key → ValueReadsBack p.value → PairReadsBack p
pair-back p utf8 back = record {
  again = λ n nests room.
      let fs : List Field = text_field 1 p.key ++ message_field 2 (value_fields p.value) in
      let P : List Field → Type 0 = λ gs. HasRoom gs → pair_of (value_to n) (message_bytes gs) ≡ Ok p in
      let read = after (pair_step (value_to n)) no_pair (keyed p.key) p (text_field 1 p.key) (message_field 2 (value_fields p.value)) (key_read n p.key utf8) (value_read n p nests back) in
      subst P (sym (fields-pair p)) (λ here. merged-again (pair_step (value_to n)) no_pair p fs read here) room;
}
