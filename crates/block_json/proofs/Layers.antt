-- What the one field of a value's message says.
-- For the cycle of values.rt.
use Rattle.std.proofs.Common.{◌≡◌, ℕ, zero, suc, ◌+◌, ◌*◌, ◌/◌, ◌%◌, ◌<◌, ◌≤◌, ◌^◌, ◌==◌, ℤ, List, [], ◌∷◌, length, map, Some, None, Ok, Err, cond, codes, Bool, true, false, true≢false, refl, sym, ◌∙◌, ap, subst, arith, lit<, length-append}
use Rattle.std.specs.Prelude.{Result, nat_lt}
use Rattle.std.proofs.lemmas.Bool.{eqb-true}
use Rattle.std.specs.Int.{w64, cast_signed, cast_unsigned}
use Rattle.std.proofs.Math.Facts.{to_z-of_z}
use Rattle.std.specs.Float.{Float}
use Rattle.std.specs.Fmt.{signed_decimal}
use Rattle.base64.specs.Engines.{standard}
use Rattle.base64.specs.GeneralPurpose.{encode_of}
use Rattle.json.specs.Token.{Token}
use Rattle.serde_json.specs.Data.{Members, string, boolean, object}
use Rattle.protobuf_wire.specs.Wire.{Field, ◌>>=◌, fields_of}
use Rattle.protobuf_wire.specs.Seen.{seen_field, Steps}
use Rattle.protobuf_wire.specs.declared.field.WireField.{WireField}
use Rattle.protobuf_wire.specs.declared.fault.WireFault.{WireFault}
use Rattle.protobuf_writer.specs.Writing.{written, wire_type, value_bytes, tag_bytes, field_bytes, message_bytes}
use Rattle.protobuf_writer.specs.Defaults.{repeated}
use Rattle.otlp_types.specs.declared.value.AnyValue.{AnyValue, out-AnyValue, Empty}
use Rattle.otlp_types.specs.declared.value.AnyValue.TheOpen.{AnyValue-F}
use Rattle.otlp_types.specs.declared.value.AnyValue.TheViews.{roll-AnyValue, roll-out-AnyValue}
use Rattle.otlp_types.specs.declared.value.AnyValue.TheVariants.{rolls-Empty, rolls-Str, rolls-Bool, rolls-Int, rolls-Double, rolls-Array, rolls-KvList, rolls-Bytes}
use Rattle.otlp_types.specs.declared.value.KeyValue.{KeyValue}
use Rattle.otlp_protobuf.specs.Kinds.{int64, truth, double}
use Rattle.otlp_protobuf_encode.specs.Writing as wire
use Rattle.otlp_protobuf_encode.proofs.NumbersBack.{int64-back, bits64, truth-back, truth_small}
use Rattle.otlp_protobuf_encode.proofs.Values.{fields-Empty as wire_none}
use Rattle.otlp_json.specs.Tokens.{value_tokens}
use Rattle.otlp_json.specs.Writing.{fields, message_field, list_field, double_data, value_fields, pair_fields}
use Rattle.otlp_json.proofs.ValuesBack.{fields-Empty, fields-Str, fields-Truth, fields-Int, fields-Double, fields-Array, fields-KvList, fields-Bytes}
use Rattle.span_block.specs.Walk.{bytes_in, number_in, fixed64_in}
use Rattle.span_block.specs.Holds.{ScalarHolds}
use Rattle.span_block.specs.Typed.{ValueIsTyped, PairIsTyped}
use Rattle.span_block.proofs.Fields.{ArePlain, plain_read}
use Rattle.span_block.proofs.PairsLeft.{layer, value_layer}
use Rattle.span_block.proofs.Values.{IsBelow, TypedBelow, typed_below}
use Rattle.block_json.specs.Messages.{AreIn}
use Rattle.block_json.proofs.Groups.{in_list}

-- ---- the first field

abbrev head_number : List Field → ℕ
head_number [] = 0
head_number (f ∷ fs) = f.number

abbrev head_bytes : List Field → List ℕ
head_bytes [] = []
head_bytes (f ∷ fs) = bytes_in (Some f.value)

abbrev head_bits : List Field → ℕ
head_bits [] = 0
head_bits (f ∷ fs) = number_in (Some f.value)

abbrev head_fixed : List Field → ℕ
head_fixed [] = 0
head_fixed (f ∷ fs) = fixed64_in (Some f.value)

abbrev tokens_of : AnyValue-F AnyValue KeyValue → List Token
tokens_of o = value_tokens (object (value_fields (roll-AnyValue o)))

-- a level of a value, with its one field
pub record Level (n : ℕ) (f : Field) (fs : List Field) (o : AnyValue-F AnyValue KeyValue) : Type 0 where
  pub typed : TypedBelow n o
  pub is : layer o ≡ f ∷ fs

level_of : (v : AnyValue) (n : ℕ) (f : Field) (fs : List Field) → ValueIsTyped (suc n) v → wire.value_fields v ≡ f ∷ fs → Level n f fs (out-AnyValue v)
level_of v n f fs typed e = record { typed = typed_below n v typed; is = sym (value_layer v) ∙ e }

-- what holds of the tokens of each level with this field holds of the value's
by_level : (P : List Token → Type 0) (v : AnyValue) (n : ℕ) (f : Field) (fs : List Field) → ValueIsTyped (suc n) v → wire.value_fields v ≡ f ∷ fs
    → ((o : AnyValue-F AnyValue KeyValue) → Level n f fs o → P (tokens_of o)) → P (value_tokens (object (value_fields v)))
by_level P v n f fs typed e k =
    let Q : AnyValue → Type 0 = λ w. P (value_tokens (object (value_fields w))) in
    subst Q (roll-out-AnyValue v) (k (out-AnyValue v) (level_of v n f fs typed e))

-- a text
text_level : (P : List Token → Type 0) (n : ℕ) (f : Field) (fs : List Field) → f.number ≡ 1
    → P (value_tokens (object (fields ((codes "stringValue", Some (string (bytes_in (Some f.value)))) ∷ [])))) → (o : AnyValue-F AnyValue KeyValue) → Level n f fs o → P (tokens_of o)
text_level P n f fs number h AnyValue-F.Empty l = let m : 0 ≡ f.number = ap head_number l.is in absurd (omega (arith, m, number))
text_level P n f fs number h (AnyValue-F.Str s) l =
    let e : bytes_in (Some f.value) ≡ s = sym (ap head_bytes l.is) in
    let m : value_fields (roll-AnyValue (AnyValue-F.Str s)) ≡ fields ((codes "stringValue", Some (string s)) ∷ []) = ap value_fields (rolls-Str s) ∙ fields-Str s in
    let Q : Members → Type 0 = λ ms. P (value_tokens (object ms)) in
    let R : List ℕ → Type 0 = λ t. P (value_tokens (object (fields ((codes "stringValue", Some (string t)) ∷ [])))) in
    subst Q (sym m) (subst R e h)
text_level P n f fs number h (AnyValue-F.Bool b) l = let m : 2 ≡ f.number = ap head_number l.is in absurd (omega (arith, m, number))
text_level P n f fs number h (AnyValue-F.Int z) l = let m : 3 ≡ f.number = ap head_number l.is in absurd (omega (arith, m, number))
text_level P n f fs number h (AnyValue-F.Double x) l = let m : 4 ≡ f.number = ap head_number l.is in absurd (omega (arith, m, number))
text_level P n f fs number h (AnyValue-F.Array vs) l = let m : 5 ≡ f.number = ap head_number l.is in absurd (omega (arith, m, number))
text_level P n f fs number h (AnyValue-F.KvList ps) l = let m : 6 ≡ f.number = ap head_number l.is in absurd (omega (arith, m, number))
text_level P n f fs number h (AnyValue-F.Bytes s) l = let m : 7 ≡ f.number = ap head_number l.is in absurd (omega (arith, m, number))

pub text_value : (P : List Token → Type 0) (v : AnyValue) (n : ℕ) (f : Field) (fs : List Field) → ValueIsTyped (suc n) v → wire.value_fields v ≡ f ∷ fs → f.number ≡ 1
    → P (value_tokens (object (fields ((codes "stringValue", Some (string (bytes_in (Some f.value)))) ∷ [])))) → P (value_tokens (object (value_fields v)))
text_value P v n f fs typed e number h = by_level P v n f fs typed e (text_level P n f fs number h)

-- a truth value
truth_level : (P : List Token → Type 0) (n : ℕ) (f : Field) (fs : List Field) → f.number ≡ 2
    → P (value_tokens (object (fields ((codes "boolValue", Some (boolean (truth (number_in (Some f.value))))) ∷ [])))) → (o : AnyValue-F AnyValue KeyValue) → Level n f fs o → P (tokens_of o)
truth_level P n f fs number h AnyValue-F.Empty l = let m : 0 ≡ f.number = ap head_number l.is in absurd (omega (arith, m, number))
truth_level P n f fs number h (AnyValue-F.Str s) l = let m : 1 ≡ f.number = ap head_number l.is in absurd (omega (arith, m, number))
truth_level P n f fs number h (AnyValue-F.Bool b) l =
    let e : truth (number_in (Some f.value)) ≡ b = ap truth (sym (ap head_bits l.is)) ∙ truth-back b in
    let m : value_fields (roll-AnyValue (AnyValue-F.Bool b)) ≡ fields ((codes "boolValue", Some (boolean b)) ∷ []) = ap value_fields (rolls-Bool b) ∙ fields-Truth b in
    let Q : Members → Type 0 = λ ms. P (value_tokens (object ms)) in
    let R : Bool → Type 0 = λ t. P (value_tokens (object (fields ((codes "boolValue", Some (boolean t)) ∷ [])))) in
    subst Q (sym m) (subst R e h)
truth_level P n f fs number h (AnyValue-F.Int z) l = let m : 3 ≡ f.number = ap head_number l.is in absurd (omega (arith, m, number))
truth_level P n f fs number h (AnyValue-F.Double x) l = let m : 4 ≡ f.number = ap head_number l.is in absurd (omega (arith, m, number))
truth_level P n f fs number h (AnyValue-F.Array vs) l = let m : 5 ≡ f.number = ap head_number l.is in absurd (omega (arith, m, number))
truth_level P n f fs number h (AnyValue-F.KvList ps) l = let m : 6 ≡ f.number = ap head_number l.is in absurd (omega (arith, m, number))
truth_level P n f fs number h (AnyValue-F.Bytes s) l = let m : 7 ≡ f.number = ap head_number l.is in absurd (omega (arith, m, number))

pub truth_value : (P : List Token → Type 0) (v : AnyValue) (n : ℕ) (f : Field) (fs : List Field) → ValueIsTyped (suc n) v → wire.value_fields v ≡ f ∷ fs → f.number ≡ 2
    → P (value_tokens (object (fields ((codes "boolValue", Some (boolean (truth (number_in (Some f.value))))) ∷ [])))) → P (value_tokens (object (value_fields v)))
truth_value P v n f fs typed e number h = by_level P v n f fs typed e (truth_level P n f fs number h)

-- an integer
int_level : (P : List Token → Type 0) (n : ℕ) (f : Field) (fs : List Field) → f.number ≡ 3
    → (r : ℤ) → r ≡ int64 (number_in (Some f.value)) → P (value_tokens (object (fields ((codes "intValue", Some (string (signed_decimal (cast_signed w64 (cast_unsigned w64 r))))) ∷ [])))) → (o : AnyValue-F AnyValue KeyValue) → Level n f fs o → P (tokens_of o)
int_level P n f fs number r is h AnyValue-F.Empty l = let m : 0 ≡ f.number = ap head_number l.is in absurd (omega (arith, m, number))
int_level P n f fs number r is h (AnyValue-F.Str s) l = let m : 1 ≡ f.number = ap head_number l.is in absurd (omega (arith, m, number))
int_level P n f fs number r is h (AnyValue-F.Bool b) l = let m : 2 ≡ f.number = ap head_number l.is in absurd (omega (arith, m, number))
int_level P n f fs number r is h (AnyValue-F.Int z) l =
    let e : cast_signed w64 (cast_unsigned w64 r) ≡ z = ap (λ x. cast_signed w64 (cast_unsigned w64 x)) (is ∙ ap int64 (sym (ap head_bits l.is)) ∙ int64-back z l.typed.2) ∙ to_z-of_z l.typed.2 in
    let m : value_fields (roll-AnyValue (AnyValue-F.Int z)) ≡ fields ((codes "intValue", Some (string (signed_decimal z))) ∷ []) = ap value_fields (rolls-Int z) ∙ fields-Int z in
    let Q : Members → Type 0 = λ ms. P (value_tokens (object ms)) in
    let R : ℤ → Type 0 = λ t. P (value_tokens (object (fields ((codes "intValue", Some (string (signed_decimal t))) ∷ [])))) in
    subst Q (sym m) (subst R e h)
int_level P n f fs number r is h (AnyValue-F.Double x) l = let m : 4 ≡ f.number = ap head_number l.is in absurd (omega (arith, m, number))
int_level P n f fs number r is h (AnyValue-F.Array vs) l = let m : 5 ≡ f.number = ap head_number l.is in absurd (omega (arith, m, number))
int_level P n f fs number r is h (AnyValue-F.KvList ps) l = let m : 6 ≡ f.number = ap head_number l.is in absurd (omega (arith, m, number))
int_level P n f fs number r is h (AnyValue-F.Bytes s) l = let m : 7 ≡ f.number = ap head_number l.is in absurd (omega (arith, m, number))

pub int_value : (P : List Token → Type 0) (v : AnyValue) (n : ℕ) (f : Field) (fs : List Field) → ValueIsTyped (suc n) v → wire.value_fields v ≡ f ∷ fs → f.number ≡ 3
    → (r : ℤ) → r ≡ int64 (number_in (Some f.value)) → P (value_tokens (object (fields ((codes "intValue", Some (string (signed_decimal (cast_signed w64 (cast_unsigned w64 r))))) ∷ [])))) → P (value_tokens (object (value_fields v)))
int_value P v n f fs typed e number r is h = by_level P v n f fs typed e (int_level P n f fs number r is h)

-- a double
double_level : (P : List Token → Type 0) (n : ℕ) (f : Field) (fs : List Field) → f.number ≡ 4
    → P (value_tokens (object (fields ((codes "doubleValue", Some (double_data (double (fixed64_in (Some f.value))))) ∷ [])))) → (o : AnyValue-F AnyValue KeyValue) → Level n f fs o → P (tokens_of o)
double_level P n f fs number h AnyValue-F.Empty l = let m : 0 ≡ f.number = ap head_number l.is in absurd (omega (arith, m, number))
double_level P n f fs number h (AnyValue-F.Str s) l = let m : 1 ≡ f.number = ap head_number l.is in absurd (omega (arith, m, number))
double_level P n f fs number h (AnyValue-F.Bool b) l = let m : 2 ≡ f.number = ap head_number l.is in absurd (omega (arith, m, number))
double_level P n f fs number h (AnyValue-F.Int z) l = let m : 3 ≡ f.number = ap head_number l.is in absurd (omega (arith, m, number))
double_level P n f fs number h (AnyValue-F.Double x) l =
    let e : double (fixed64_in (Some f.value)) ≡ x = ap double (sym (ap head_fixed l.is)) ∙ l.typed.2.1 in
    let m : value_fields (roll-AnyValue (AnyValue-F.Double x)) ≡ fields ((codes "doubleValue", Some (double_data x)) ∷ []) = ap value_fields (rolls-Double x) ∙ fields-Double x in
    let Q : Members → Type 0 = λ ms. P (value_tokens (object ms)) in
    let R : Float → Type 0 = λ t. P (value_tokens (object (fields ((codes "doubleValue", Some (double_data t)) ∷ [])))) in
    subst Q (sym m) (subst R e h)
double_level P n f fs number h (AnyValue-F.Array vs) l = let m : 5 ≡ f.number = ap head_number l.is in absurd (omega (arith, m, number))
double_level P n f fs number h (AnyValue-F.KvList ps) l = let m : 6 ≡ f.number = ap head_number l.is in absurd (omega (arith, m, number))
double_level P n f fs number h (AnyValue-F.Bytes s) l = let m : 7 ≡ f.number = ap head_number l.is in absurd (omega (arith, m, number))

pub double_value : (P : List Token → Type 0) (v : AnyValue) (n : ℕ) (f : Field) (fs : List Field) → ValueIsTyped (suc n) v → wire.value_fields v ≡ f ∷ fs → f.number ≡ 4
    → P (value_tokens (object (fields ((codes "doubleValue", Some (double_data (double (fixed64_in (Some f.value))))) ∷ [])))) → P (value_tokens (object (value_fields v)))
double_value P v n f fs typed e number h = by_level P v n f fs typed e (double_level P n f fs number h)

-- a list of values
array_level : (P : List Token → Type 0) (n : ℕ) (f : Field) (fs : List Field) → f.number ≡ 5 → length (bytes_in (Some f.value)) < 2 ^ 64
    → ((vs : List AnyValue) → AreIn wire.value_fields (ValueIsTyped n) 1 (bytes_in (Some f.value)) vs → P (value_tokens (object (fields ((codes "arrayValue", Some (object (fields ((codes "values", list_field (map value_fields vs)) ∷ [])))) ∷ []))))) → (o : AnyValue-F AnyValue KeyValue) → Level n f fs o → P (tokens_of o)
array_level P n f fs number room h AnyValue-F.Empty l = let m : 0 ≡ f.number = ap head_number l.is in absurd (omega (arith, m, number))
array_level P n f fs number room h (AnyValue-F.Str s) l = let m : 1 ≡ f.number = ap head_number l.is in absurd (omega (arith, m, number))
array_level P n f fs number room h (AnyValue-F.Bool b) l = let m : 2 ≡ f.number = ap head_number l.is in absurd (omega (arith, m, number))
array_level P n f fs number room h (AnyValue-F.Int z) l = let m : 3 ≡ f.number = ap head_number l.is in absurd (omega (arith, m, number))
array_level P n f fs number room h (AnyValue-F.Double x) l = let m : 4 ≡ f.number = ap head_number l.is in absurd (omega (arith, m, number))
array_level P n f fs number room h (AnyValue-F.Array vs) l =
    let e : bytes_in (Some f.value) ≡ message_bytes (repeated 1 (map wire.value_fields vs)) = sym (ap head_bytes l.is) in
    let m : value_fields (roll-AnyValue (AnyValue-F.Array vs)) ≡ fields ((codes "arrayValue", Some (object (fields ((codes "values", list_field (map value_fields vs)) ∷ [])))) ∷ []) = ap value_fields (rolls-Array vs) ∙ fields-Array vs in
    let Q : Members → Type 0 = λ ms. P (value_tokens (object ms)) in
    subst Q (sym m) (h vs (in_list wire.value_fields (ValueIsTyped n) 1 (bytes_in (Some f.value)) vs (lit< tt) (lit< tt) e room l.typed.0))
array_level P n f fs number room h (AnyValue-F.KvList ps) l = let m : 6 ≡ f.number = ap head_number l.is in absurd (omega (arith, m, number))
array_level P n f fs number room h (AnyValue-F.Bytes s) l = let m : 7 ≡ f.number = ap head_number l.is in absurd (omega (arith, m, number))

pub array_value : (P : List Token → Type 0) (v : AnyValue) (n : ℕ) (f : Field) (fs : List Field) → ValueIsTyped (suc n) v → wire.value_fields v ≡ f ∷ fs → f.number ≡ 5 → length (bytes_in (Some f.value)) < 2 ^ 64
    → ((vs : List AnyValue) → AreIn wire.value_fields (ValueIsTyped n) 1 (bytes_in (Some f.value)) vs → P (value_tokens (object (fields ((codes "arrayValue", Some (object (fields ((codes "values", list_field (map value_fields vs)) ∷ [])))) ∷ []))))) → P (value_tokens (object (value_fields v)))
array_value P v n f fs typed e number room h = by_level P v n f fs typed e (array_level P n f fs number room h)

-- a list of pairs
pairs_level : (P : List Token → Type 0) (n : ℕ) (f : Field) (fs : List Field) → f.number ≡ 6 → length (bytes_in (Some f.value)) < 2 ^ 64
    → ((ps : List KeyValue) → AreIn wire.pair_fields (PairIsTyped n) 1 (bytes_in (Some f.value)) ps → P (value_tokens (object (fields ((codes "kvlistValue", Some (object (fields ((codes "values", list_field (map pair_fields ps)) ∷ [])))) ∷ []))))) → (o : AnyValue-F AnyValue KeyValue) → Level n f fs o → P (tokens_of o)
pairs_level P n f fs number room h AnyValue-F.Empty l = let m : 0 ≡ f.number = ap head_number l.is in absurd (omega (arith, m, number))
pairs_level P n f fs number room h (AnyValue-F.Str s) l = let m : 1 ≡ f.number = ap head_number l.is in absurd (omega (arith, m, number))
pairs_level P n f fs number room h (AnyValue-F.Bool b) l = let m : 2 ≡ f.number = ap head_number l.is in absurd (omega (arith, m, number))
pairs_level P n f fs number room h (AnyValue-F.Int z) l = let m : 3 ≡ f.number = ap head_number l.is in absurd (omega (arith, m, number))
pairs_level P n f fs number room h (AnyValue-F.Double x) l = let m : 4 ≡ f.number = ap head_number l.is in absurd (omega (arith, m, number))
pairs_level P n f fs number room h (AnyValue-F.Array vs) l = let m : 5 ≡ f.number = ap head_number l.is in absurd (omega (arith, m, number))
pairs_level P n f fs number room h (AnyValue-F.KvList ps) l =
    let e : bytes_in (Some f.value) ≡ message_bytes (repeated 1 (map wire.pair_fields ps)) = sym (ap head_bytes l.is) in
    let m : value_fields (roll-AnyValue (AnyValue-F.KvList ps)) ≡ fields ((codes "kvlistValue", Some (object (fields ((codes "values", list_field (map pair_fields ps)) ∷ [])))) ∷ []) = ap value_fields (rolls-KvList ps) ∙ fields-KvList ps in
    let Q : Members → Type 0 = λ ms. P (value_tokens (object ms)) in
    subst Q (sym m) (h ps (in_list wire.pair_fields (PairIsTyped n) 1 (bytes_in (Some f.value)) ps (lit< tt) (lit< tt) e room l.typed.1))
pairs_level P n f fs number room h (AnyValue-F.Bytes s) l = let m : 7 ≡ f.number = ap head_number l.is in absurd (omega (arith, m, number))

pub pairs_value : (P : List Token → Type 0) (v : AnyValue) (n : ℕ) (f : Field) (fs : List Field) → ValueIsTyped (suc n) v → wire.value_fields v ≡ f ∷ fs → f.number ≡ 6 → length (bytes_in (Some f.value)) < 2 ^ 64
    → ((ps : List KeyValue) → AreIn wire.pair_fields (PairIsTyped n) 1 (bytes_in (Some f.value)) ps → P (value_tokens (object (fields ((codes "kvlistValue", Some (object (fields ((codes "values", list_field (map pair_fields ps)) ∷ [])))) ∷ []))))) → P (value_tokens (object (value_fields v)))
pairs_value P v n f fs typed e number room h = by_level P v n f fs typed e (pairs_level P n f fs number room h)

-- bytes
bytes_level : (P : List Token → Type 0) (n : ℕ) (f : Field) (fs : List Field) → (f.number ≡ 1 → ⊥) → (f.number ≡ 2 → ⊥) → (f.number ≡ 3 → ⊥) → (f.number ≡ 4 → ⊥) → (f.number ≡ 5 → ⊥) → (f.number ≡ 6 → ⊥)
    → P (value_tokens (object (fields ((codes "bytesValue", Some (string (encode_of standard (bytes_in (Some f.value))))) ∷ [])))) → (o : AnyValue-F AnyValue KeyValue) → Level n f fs o → P (tokens_of o)
bytes_level P n f fs n1 n2 n3 n4 n5 n6 h AnyValue-F.Empty l = let e : [] ≡ f ∷ fs = l.is in absurd (cc e)
bytes_level P n f fs n1 n2 n3 n4 n5 n6 h (AnyValue-F.Str s) l = absurd (n1 (sym (ap head_number l.is)))
bytes_level P n f fs n1 n2 n3 n4 n5 n6 h (AnyValue-F.Bool b) l = absurd (n2 (sym (ap head_number l.is)))
bytes_level P n f fs n1 n2 n3 n4 n5 n6 h (AnyValue-F.Int z) l = absurd (n3 (sym (ap head_number l.is)))
bytes_level P n f fs n1 n2 n3 n4 n5 n6 h (AnyValue-F.Double x) l = absurd (n4 (sym (ap head_number l.is)))
bytes_level P n f fs n1 n2 n3 n4 n5 n6 h (AnyValue-F.Array vs) l = absurd (n5 (sym (ap head_number l.is)))
bytes_level P n f fs n1 n2 n3 n4 n5 n6 h (AnyValue-F.KvList ps) l = absurd (n6 (sym (ap head_number l.is)))
bytes_level P n f fs n1 n2 n3 n4 n5 n6 h (AnyValue-F.Bytes s) l =
    let e : encode_of standard (bytes_in (Some f.value)) ≡ s = ap (encode_of standard) (sym (ap head_bytes l.is)) ∙ l.typed.2 in
    let m : value_fields (roll-AnyValue (AnyValue-F.Bytes s)) ≡ fields ((codes "bytesValue", Some (string s)) ∷ []) = ap value_fields (rolls-Bytes s) ∙ fields-Bytes s in
    let Q : Members → Type 0 = λ ms. P (value_tokens (object ms)) in
    let R : List ℕ → Type 0 = λ t. P (value_tokens (object (fields ((codes "bytesValue", Some (string t)) ∷ [])))) in
    subst Q (sym m) (subst R e h)

pub bytes_value : (P : List Token → Type 0) (v : AnyValue) (n : ℕ) (f : Field) (fs : List Field) → ValueIsTyped (suc n) v → wire.value_fields v ≡ f ∷ fs → (f.number ≡ 1 → ⊥) → (f.number ≡ 2 → ⊥) → (f.number ≡ 3 → ⊥) → (f.number ≡ 4 → ⊥) → (f.number ≡ 5 → ⊥) → (f.number ≡ 6 → ⊥)
    → P (value_tokens (object (fields ((codes "bytesValue", Some (string (encode_of standard (bytes_in (Some f.value))))) ∷ [])))) → P (value_tokens (object (value_fields v)))
bytes_value P v n f fs typed e n1 n2 n3 n4 n5 n6 h = by_level P v n f fs typed e (bytes_level P n f fs n1 n2 n3 n4 n5 n6 h)

-- ---- no field

none_of : (o : AnyValue-F AnyValue KeyValue) → layer o ≡ [] → roll-AnyValue o ≡ Empty
none_of AnyValue-F.Empty e = rolls-Empty
none_of (AnyValue-F.Str s) e = absurd (cc e)
none_of (AnyValue-F.Bool b) e = absurd (cc e)
none_of (AnyValue-F.Int z) e = absurd (cc e)
none_of (AnyValue-F.Double x) e = absurd (cc e)
none_of (AnyValue-F.Array vs) e = absurd (cc e)
none_of (AnyValue-F.KvList ps) e = absurd (cc e)
none_of (AnyValue-F.Bytes s) e = absurd (cc e)

-- a value that has no field is none
pub no_value : (v : AnyValue) → wire.value_fields v ≡ [] → v ≡ Empty
no_value v e = sym (roll-out-AnyValue v) ∙ none_of (out-AnyValue v) (sym (value_layer v) ∙ e)

-- any other has a member
some_of : (o : AnyValue-F AnyValue KeyValue) → (roll-AnyValue o ≡ Empty → ⊥) → message_field (value_fields (roll-AnyValue o)) ≡ Some (object (value_fields (roll-AnyValue o)))
some_of AnyValue-F.Empty h = absurd (h rolls-Empty)
some_of (AnyValue-F.Str s) h = let Q : Members → Type 0 = λ ms. message_field ms ≡ Some (object ms) in subst Q (sym (ap value_fields (rolls-Str s) ∙ fields-Str s)) refl
some_of (AnyValue-F.Bool b) h = let Q : Members → Type 0 = λ ms. message_field ms ≡ Some (object ms) in subst Q (sym (ap value_fields (rolls-Bool b) ∙ fields-Truth b)) refl
some_of (AnyValue-F.Int z) h = let Q : Members → Type 0 = λ ms. message_field ms ≡ Some (object ms) in subst Q (sym (ap value_fields (rolls-Int z) ∙ fields-Int z)) refl
some_of (AnyValue-F.Double x) h = let Q : Members → Type 0 = λ ms. message_field ms ≡ Some (object ms) in subst Q (sym (ap value_fields (rolls-Double x) ∙ fields-Double x)) refl
some_of (AnyValue-F.Array vs) h = let Q : Members → Type 0 = λ ms. message_field ms ≡ Some (object ms) in subst Q (sym (ap value_fields (rolls-Array vs) ∙ fields-Array vs)) refl
some_of (AnyValue-F.KvList ps) h = let Q : Members → Type 0 = λ ms. message_field ms ≡ Some (object ms) in subst Q (sym (ap value_fields (rolls-KvList ps) ∙ fields-KvList ps)) refl
some_of (AnyValue-F.Bytes s) h = let Q : Members → Type 0 = λ ms. message_field ms ≡ Some (object ms) in subst Q (sym (ap value_fields (rolls-Bytes s) ∙ fields-Bytes s)) refl

pub some_value : (v : AnyValue) → (v ≡ Empty → ⊥) → message_field (value_fields v) ≡ Some (object (value_fields v))
some_value v h =
    let Q : AnyValue → Type 0 = λ w. message_field (value_fields w) ≡ Some (object (value_fields w)) in
    subst Q (roll-out-AnyValue v) (some_of (out-AnyValue v) (λ e. h (sym (roll-out-AnyValue v) ∙ e)))

-- the member of a value that is none is left out
pub none_value : (v : AnyValue) → v ≡ Empty → message_field (value_fields v) ≡ None
none_value v e = ap (λ w. message_field (value_fields w)) e ∙ ap message_field fields-Empty

-- ---- the fields of a value's message

plain_layer : (o : AnyValue-F AnyValue KeyValue) → ScalarHolds o → ArePlain (layer o)
plain_layer AnyValue-F.Empty h = tt
plain_layer (AnyValue-F.Str s) h = ((lit< tt, lit< tt, tt), tt)
plain_layer (AnyValue-F.Bool b) h = ((lit< tt, lit< tt, truth_small b), tt)
plain_layer (AnyValue-F.Int z) h = ((lit< tt, lit< tt, bits64 z h), tt)
plain_layer (AnyValue-F.Double x) h = ((lit< tt, lit< tt, h.0), tt)
plain_layer (AnyValue-F.Array vs) h = ((lit< tt, lit< tt, tt), tt)
plain_layer (AnyValue-F.KvList ps) h = ((lit< tt, lit< tt, tt), tt)
plain_layer (AnyValue-F.Bytes s) h = ((lit< tt, lit< tt, tt), tt)

pub value_read : (v : AnyValue) (n : ℕ) (message : List ℕ) → ValueIsTyped (suc n) v → message ≡ message_bytes (wire.value_fields v) → length message < 2 ^ 64 → fields_of message ≡ Ok (wire.value_fields v)
value_read v n message typed is room =
    plain_read (wire.value_fields v) message (subst ArePlain (sym (value_layer v)) (plain_layer (out-AnyValue v) (typed_below n v typed).2)) is room

-- ---- levels

not_typed : (v : AnyValue) → ValueIsTyped 0 v → ⊥
unfolding ValueIsTyped
not_typed v h = h

pub no_level : (levels : ℕ) (v : AnyValue) → (1 ≤ levels → ⊥) → ValueIsTyped levels v → ⊥
no_level zero v h typed = not_typed v typed
no_level (suc n) v h typed = h (omega arith)

pub level_below : (levels n : ℕ) (v : AnyValue) → IsBelow levels n → ValueIsTyped levels v → ValueIsTyped (suc n) v
level_below levels n v h typed = let e : levels ≡ suc n = omega (arith, h) in let P : ℕ → Type 0 = λ m. ValueIsTyped m v in subst P e typed

-- ---- a message of no bytes

written_some : (n k : ℕ) (b : Bool) → b ≡ nat_lt k 128 → 0 < length (cond b (k ∷ []) ((k % 128 + 128) ∷ written n (k / 128)))
written_some n k true e = omega arith
written_some n k false e = omega arith

pub no_bytes : (fs : List Field) → (length (message_bytes fs) == 0) ≡ true → fs ≡ []
unfolding message_bytes written
no_bytes [] h = refl
no_bytes (f ∷ fs) h =
    let some = written_some 9 (8 * f.number + wire_type f.value) (nat_lt (8 * f.number + wire_type f.value) 128) refl in
    let whole : length (message_bytes (f ∷ fs)) ≡ (length (tag_bytes f.number (wire_type f.value)) + length (value_bytes f.value)) + length (message_bytes fs)
    = length-append (field_bytes f) (message_bytes fs) ∙ ap (λ k. k + length (message_bytes fs)) (length-append (tag_bytes f.number (wire_type f.value)) (value_bytes f.value)) in
    let none = eqb-true (length (message_bytes (f ∷ fs))) 0 h in
    absurd (omega (arith, some, whole, none))

no_length : (s : List ℕ) → s ≡ [] → (length s == 0) ≡ true
no_length s e = ap (λ (t : List ℕ). length t == 0) e

-- a value that has bytes is set
pub is_some : (v : AnyValue) (message : List ℕ) → message ≡ message_bytes (wire.value_fields v) → (length message == 0) ≡ false → v ≡ Empty → ⊥
unfolding message_bytes
is_some v message is some e =
    let none : message_bytes (wire.value_fields v) ≡ [] = ap (λ w. message_bytes (wire.value_fields w)) e ∙ ap message_bytes wire_none in
    true≢false (sym (no_length message (is ∙ none)) ∙ some)

-- ---- the first field of a message

pub first_is : (old new : List ℕ) (f : WireField) (fs : List Field) → Steps old new (Ok (Some f)) → fields_of old ≡ Ok fs → (gs : List Field) × (fs ≡ seen_field f ∷ gs)
first_is old new f fs step read = first_by (fields_of new) f fs (sym read ∙ step.0)
  where
    first_by : (r : Result (List Field) WireFault) (f : WireField) (fs : List Field) → Ok fs ≡ (r >>= λ gs. Ok (seen_field f ∷ gs)) → (gs : List Field) × (fs ≡ seen_field f ∷ gs)
    first_by (Ok gs) f fs e = (gs, cc e)
    first_by (Err x) f fs e = absurd (cc e)

pub none_first : (old new : List ℕ) (fs : List Field) → Steps old new (Ok None) → fields_of old ≡ Ok fs → fs ≡ []
none_first old new fs step read = let e : Ok fs ≡ Ok [] = sym read ∙ step.0 in cc e

pub no_fault : (old new : List ℕ) (x : WireFault) (fs : List Field) → Steps old new (Err x) → fields_of old ≡ Ok fs → ⊥
no_fault old new x fs step read = let e : Ok fs ≡ Err x = sym read ∙ step.0 in absurd (cc e)
