-- One level of a value.
-- For the cycle of value.rt.
use Rattle.std.proofs.Common.{◌≡◌, ℕ, zero, suc, ◌-◌, ◌<◌, ◌≤◌, ◌^◌, ℤ, List, [], Bool, None, unwrap_or, to_bits, subst, sym, arith, rules}
use Rattle.std.specs.Prelude.{FitsSigned}
use Rattle.std.specs.Int.{w64}
use Rattle.std.specs.Float.{Float, binary64}
use Rattle.std.specs.Float.Ieee.{of_bits}
use Rattle.std.specs.Str.{IsUtf8}
use Rattle.std.specs.List.{AllByRecursion}
use Rattle.base64.specs.Engines.{standard}
use Rattle.base64.specs.GeneralPurpose.{encode_of}
use Rattle.otlp_types.specs.declared.value.AnyValue.{AnyValue, out-AnyValue, Empty, Str, Bool as Truth, Int, Double, Array, KvList, Bytes, the_lemmas}
use Rattle.otlp_types.specs.declared.value.AnyValue.TheOpen.{AnyValue-F}
use Rattle.otlp_types.specs.declared.value.KeyValue.{KeyValue}
use Rattle.otlp_protobuf.specs.Values.{items_in, pairs_in}
use Rattle.otlp_protobuf_encode.specs.Writing.{base64_of}
use Rattle.otlp_protobuf_encode.specs.Faults.{base64_fault}
use Rattle.otlp_protobuf_encode.specs.ReadsBack.{ValueReadsBack, PairReadsBack}
use Rattle.otlp_protobuf_encode.proofs.ValuesBack.{empty-back, str-back, truth-value-back, int-back, double-back, bytes-value-back, array-back, kv_list-back, pair-back}
use Rattle.span_block.specs.Fits.{BytesFit, ValueFits, PairFits}
use Rattle.span_block.specs.Holds.{ScalarHolds, ValueHolds, PairHolds}
use Rattle.span_block.specs.Typed.{ValueIsTyped, PairIsTyped}
use Rattle.span_block.proofs.Nests.{each}

-- ---- what a value is

out-Empty : out-AnyValue Empty ≡ AnyValue-F.Empty
out-Empty = search (rules, the_lemmas)

out-Str : (s : List ℕ) → out-AnyValue (Str s) ≡ AnyValue-F.Str s
out-Str s = search (rules, the_lemmas)

out-Truth : (b : Bool) → out-AnyValue (Truth b) ≡ AnyValue-F.Bool b
out-Truth b = search (rules, the_lemmas)

out-Int : (z : ℤ) → out-AnyValue (Int z) ≡ AnyValue-F.Int z
out-Int z = search (rules, the_lemmas)

out-Double : (x : Float) → out-AnyValue (Double x) ≡ AnyValue-F.Double x
out-Double x = search (rules, the_lemmas)

out-Array : (vs : List AnyValue) → out-AnyValue (Array vs) ≡ AnyValue-F.Array vs
out-Array vs = search (rules, the_lemmas)

out-KvList : (ps : List KeyValue) → out-AnyValue (KvList ps) ≡ AnyValue-F.KvList ps
out-KvList ps = search (rules, the_lemmas)

out-Bytes : (s : List ℕ) → out-AnyValue (Bytes s) ≡ AnyValue-F.Bytes s
out-Bytes s = search (rules, the_lemmas)

-- ---- what fits

abbrev FitsBelow : ℕ → AnyValue-F AnyValue KeyValue → Type 0
FitsBelow n v = AllByRecursion (ValueFits n) (items_in v) × AllByRecursion (PairFits n) (pairs_in v) × BytesFit v

fits-by : (n : ℕ) (v : AnyValue) (o : AnyValue-F AnyValue KeyValue) → out-AnyValue v ≡ o → FitsBelow n o → ValueFits (suc n) v
unfolding ValueFits
fits-by n v o e h = subst (FitsBelow n) (sym e) h

below : (n : ℕ) (v : AnyValue) (o : AnyValue-F AnyValue KeyValue) → out-AnyValue v ≡ o → ValueFits (suc n) v → FitsBelow n o
unfolding ValueFits
below n v o e h = subst (FitsBelow n) e h

none_fits : (v : AnyValue) → ValueFits 0 v → ⊥
unfolding ValueFits
none_fits v h = h

pub empty_fits : (n : ℕ) → ValueFits (suc n) Empty
empty_fits n = fits-by n Empty AnyValue-F.Empty out-Empty (tt, tt, tt)

pub str_fits : (n : ℕ) (s : List ℕ) → ValueFits (suc n) (Str s)
str_fits n s = fits-by n (Str s) (AnyValue-F.Str s) (out-Str s) (tt, tt, tt)

pub truth_fits : (n : ℕ) (b : Bool) → ValueFits (suc n) (Truth b)
truth_fits n b = fits-by n (Truth b) (AnyValue-F.Bool b) (out-Truth b) (tt, tt, tt)

pub int_fits : (n : ℕ) (z : ℤ) → ValueFits (suc n) (Int z)
int_fits n z = fits-by n (Int z) (AnyValue-F.Int z) (out-Int z) (tt, tt, tt)

pub double_fits : (n : ℕ) (x : Float) → ValueFits (suc n) (Double x)
double_fits n x = fits-by n (Double x) (AnyValue-F.Double x) (out-Double x) (tt, tt, tt)

pub array_fits : (n : ℕ) (vs : List AnyValue) → AllByRecursion (ValueFits n) vs → ValueFits (suc n) (Array vs)
array_fits n vs h = fits-by n (Array vs) (AnyValue-F.Array vs) (out-Array vs) (h, tt, tt)

pub kv_list_fits : (n : ℕ) (ps : List KeyValue) → AllByRecursion (PairFits n) ps → ValueFits (suc n) (KvList ps)
kv_list_fits n ps h = fits-by n (KvList ps) (AnyValue-F.KvList ps) (out-KvList ps) (tt, h, tt)

pub bytes_fits : (n : ℕ) (s : List ℕ) → base64_fault s ≡ None → ValueFits (suc n) (Bytes s)
bytes_fits n s h = fits-by n (Bytes s) (AnyValue-F.Bytes s) (out-Bytes s) (tt, tt, h)

pub array_below : (n : ℕ) (vs : List AnyValue) → ValueFits (suc n) (Array vs) → AllByRecursion (ValueFits n) vs
array_below n vs h = (below n (Array vs) (AnyValue-F.Array vs) (out-Array vs) h).0

pub kv_list_below : (n : ℕ) (ps : List KeyValue) → ValueFits (suc n) (KvList ps) → AllByRecursion (PairFits n) ps
kv_list_below n ps h = (below n (KvList ps) (AnyValue-F.KvList ps) (out-KvList ps) h).1

pub bytes_below : (n : ℕ) (s : List ℕ) → ValueFits (suc n) (Bytes s) → base64_fault s ≡ None
bytes_below n s h = (below n (Bytes s) (AnyValue-F.Bytes s) (out-Bytes s) h).2

-- ---- what holds

holds-by : (v : AnyValue) (o : AnyValue-F AnyValue KeyValue) → out-AnyValue v ≡ o → ScalarHolds o → ValueReadsBack v → ValueHolds v
holds-by v o e h back = record { back = back; scalar = subst ScalarHolds (sym e) h }

pub empty_holds : ValueHolds Empty
empty_holds = holds-by Empty AnyValue-F.Empty out-Empty tt empty-back

pub str_holds : (s : List ℕ) → IsUtf8 s → ValueHolds (Str s)
str_holds s utf8 = holds-by (Str s) (AnyValue-F.Str s) (out-Str s) utf8 (str-back s utf8)

pub truth_holds : (b : Bool) → ValueHolds (Truth b)
truth_holds b = holds-by (Truth b) (AnyValue-F.Bool b) (out-Truth b) tt (truth-value-back b)

pub int_holds : (z : ℤ) → FitsSigned w64 z → ValueHolds (Int z)
int_holds z fits = holds-by (Int z) (AnyValue-F.Int z) (out-Int z) fits (int-back z fits)

pub double_holds : (x : Float) → to_bits binary64 x < 2 ^ 64 → of_bits binary64 (to_bits binary64 x) ≡ x → ValueHolds (Double x)
double_holds x small again = holds-by (Double x) (AnyValue-F.Double x) (out-Double x) (small, again) (double-back x small again)

pub array_holds : (vs : List AnyValue) → AllByRecursion ValueHolds vs → ValueHolds (Array vs)
array_holds vs h = holds-by (Array vs) (AnyValue-F.Array vs) (out-Array vs) tt (array-back vs (each ValueHolds ValueReadsBack (λ v g. g.back) vs h))

pub pairs_back : (ps : List KeyValue) → AllByRecursion PairHolds ps → AllByRecursion PairReadsBack ps
pairs_back ps h = each PairHolds PairReadsBack (λ p g. g.back) ps h

pub kv_list_holds : (ps : List KeyValue) → AllByRecursion PairHolds ps → ValueHolds (KvList ps)
kv_list_holds ps h = holds-by (KvList ps) (AnyValue-F.KvList ps) (out-KvList ps) tt (kv_list-back ps (pairs_back ps h))

pub bytes_holds : (s : List ℕ) → encode_of standard (unwrap_or (base64_of s) []) ≡ s → ValueHolds (Bytes s)
bytes_holds s again = holds-by (Bytes s) (AnyValue-F.Bytes s) (out-Bytes s) again (bytes-value-back s again)

pub pair_holds : (p : KeyValue) → IsUtf8 p.key → ValueHolds p.value → PairHolds p
pair_holds p utf8 h = record { back = pair-back p utf8 h.back; key = utf8; scalar = h.scalar }

-- ---- what is typed

abbrev pub TypedBelow : ℕ → AnyValue-F AnyValue KeyValue → Type 0
TypedBelow n v = AllByRecursion (ValueIsTyped n) (items_in v) × AllByRecursion (PairIsTyped n) (pairs_in v) × ScalarHolds v

typed-by : (n : ℕ) (v : AnyValue) (o : AnyValue-F AnyValue KeyValue) → out-AnyValue v ≡ o → TypedBelow n o → ValueIsTyped (suc n) v
unfolding ValueIsTyped
typed-by n v o e h = subst (TypedBelow n) (sym e) h

pub typed_below : (n : ℕ) (v : AnyValue) → ValueIsTyped (suc n) v → TypedBelow n (out-AnyValue v)
unfolding ValueIsTyped
typed_below n v h = h

pub empty_typed : (n : ℕ) → ValueIsTyped (suc n) Empty
empty_typed n = typed-by n Empty AnyValue-F.Empty out-Empty (tt, tt, tt)

pub str_typed : (n : ℕ) (s : List ℕ) → IsUtf8 s → ValueIsTyped (suc n) (Str s)
str_typed n s h = typed-by n (Str s) (AnyValue-F.Str s) (out-Str s) (tt, tt, h)

pub truth_typed : (n : ℕ) (b : Bool) → ValueIsTyped (suc n) (Truth b)
truth_typed n b = typed-by n (Truth b) (AnyValue-F.Bool b) (out-Truth b) (tt, tt, tt)

pub int_typed : (n : ℕ) (z : ℤ) → FitsSigned w64 z → ValueIsTyped (suc n) (Int z)
int_typed n z h = typed-by n (Int z) (AnyValue-F.Int z) (out-Int z) (tt, tt, h)

pub double_typed : (n : ℕ) (x : Float) → to_bits binary64 x < 2 ^ 64 → of_bits binary64 (to_bits binary64 x) ≡ x → ValueIsTyped (suc n) (Double x)
double_typed n x small again = typed-by n (Double x) (AnyValue-F.Double x) (out-Double x) (tt, tt, (small, again))

pub array_typed : (n : ℕ) (vs : List AnyValue) → AllByRecursion (ValueIsTyped n) vs → ValueIsTyped (suc n) (Array vs)
array_typed n vs h = typed-by n (Array vs) (AnyValue-F.Array vs) (out-Array vs) (h, tt, tt)

pub kv_list_typed : (n : ℕ) (ps : List KeyValue) → AllByRecursion (PairIsTyped n) ps → ValueIsTyped (suc n) (KvList ps)
kv_list_typed n ps h = typed-by n (KvList ps) (AnyValue-F.KvList ps) (out-KvList ps) (tt, h, tt)

pub bytes_typed : (n : ℕ) (s : List ℕ) → encode_of standard (unwrap_or (base64_of s) []) ≡ s → ValueIsTyped (suc n) (Bytes s)
bytes_typed n s h = typed-by n (Bytes s) (AnyValue-F.Bytes s) (out-Bytes s) (tt, tt, h)

-- ---- levels

-- n is the level below
abbrev pub IsBelow : (levels n : ℕ) → Type 0
IsBelow levels n = (1 ≤ levels) × (n ≡ levels - 1)

pub at_level : (levels n : ℕ) (v : AnyValue) → IsBelow levels n → ValueFits (suc n) v → ValueFits levels v
at_level levels n v h fits = let e : suc n ≡ levels = omega (arith, h) in let P : ℕ → Type 0 = λ m. ValueFits m v in subst P e fits

pub typed_at : (levels n : ℕ) (v : AnyValue) → IsBelow levels n → ValueIsTyped (suc n) v → ValueIsTyped levels v
typed_at levels n v h typed = let e : suc n ≡ levels = omega (arith, h) in let P : ℕ → Type 0 = λ m. ValueIsTyped m v in subst P e typed

pub from_level : (levels n : ℕ) (v : AnyValue) → IsBelow levels n → ValueFits levels v → ValueFits (suc n) v
from_level levels n v h fits = let e : levels ≡ suc n = omega (arith, h) in let P : ℕ → Type 0 = λ m. ValueFits m v in subst P e fits

pub at_no_level : (levels : ℕ) (v : AnyValue) → (1 ≤ levels → ⊥) → ValueFits levels v → ⊥
at_no_level zero v h fits = none_fits v fits
at_no_level (suc n) v h fits = h (omega arith)
