-- One level of what is written of a value.
-- For the cycle of value.rt.
use Rattle.std.proofs.Common.{◌≡◌, ℕ, Bool, ℤ, List, [], ◌∷◌, ◌++◌, map, unwrap_or, to_bits, rules}
use Rattle.std.specs.Float.{Float, binary64}
use Rattle.protobuf_wire.specs.Wire.{varint, fixed64, bytes}
use Rattle.protobuf_writer.specs.Defaults.{field, text_field, message_in, message_field, repeated}
use Rattle.otlp_types.specs.declared.value.AnyValue.{AnyValue, Empty, Str, Bool as Truth, Int, Double, Array, KvList, Bytes, the_lemmas}
use Rattle.otlp_types.specs.declared.value.KeyValue.{KeyValue}
use Rattle.otlp_protobuf_encode.specs.Writing.{int_bits, truth_bits, base64_of, value_fields, pair_fields}

pub fields-Empty : value_fields Empty ≡ []
fields-Empty = search (rules, the_lemmas)

pub fields-Str : (s : List ℕ) → value_fields (Str s) ≡ field 1 (bytes s) ∷ []
fields-Str s = search (rules, the_lemmas)

pub fields-Truth : (b : Bool) → value_fields (Truth b) ≡ field 2 (varint (truth_bits b)) ∷ []
fields-Truth b = search (rules, the_lemmas)

pub fields-Int : (z : ℤ) → value_fields (Int z) ≡ field 3 (varint (int_bits z)) ∷ []
fields-Int z = search (rules, the_lemmas)

pub fields-Double : (x : Float) → value_fields (Double x) ≡ field 4 (fixed64 (to_bits binary64 x)) ∷ []
fields-Double x = search (rules, the_lemmas)

pub fields-Array : (vs : List AnyValue) → value_fields (Array vs) ≡ message_in 5 (repeated 1 (map value_fields vs)) ∷ []
fields-Array vs = search (rules, the_lemmas)

pub fields-KvList : (ps : List KeyValue) → value_fields (KvList ps) ≡ message_in 6 (repeated 1 (map pair_fields ps)) ∷ []
fields-KvList ps = search (rules, the_lemmas)

pub fields-Bytes : (s : List ℕ) → value_fields (Bytes s) ≡ field 7 (bytes (unwrap_or (base64_of s) [])) ∷ []
fields-Bytes s = search (rules, the_lemmas)

pub fields-pair : (p : KeyValue) → pair_fields p ≡ text_field 1 p.key ++ message_field 2 (value_fields p.value)
fields-pair p = search (rules, the_lemmas)
