-- Rows of the definition, by computation: what Google's parser writes of the same messages.
use Rattle.std.specs.Prelude.{◌≡◌, ◌∷◌, [], Some, None, true, false, pos, negsuc, refl}
use lib.Ieee.{to_bits}
use Rattle.std.proofs.Common.{ap}
use Rattle.std.specs.Float.{fin}
use Rattle.hex.specs.Hex.{decode_pairs}
use Rattle.protobuf_writer.specs.Writing.{written, message_bytes}
use Rattle.otlp_types.specs.Empty.{plain_span, no_resource, no_scope}
use Rattle.otlp_types.specs.declared.value.AnyValue.{Empty, Str, Bool as Truth, Int, Double, Array}
use Rattle.otlp_protobuf_encode.specs.declared.encode_error.EncodeError.TheVariants.{NotHex}
use Rattle.otlp_protobuf_encode.specs.Writing.{hex_of, value_fields, pair_fields, status_fields, event_fields, link_fields, span_fields, request_bytes}
use Rattle.otlp_protobuf_encode.specs.Faults.{hex_fault}
use Rattle.otlp_protobuf_encode.proofs.Values.{fields-Empty, fields-Str, fields-Truth, fields-Int, fields-Double, fields-Array, fields-pair}

-- ---- values: of a kind its default is written, too

an_empty_text : message_bytes (value_fields (Str [])) ≡ 10 ∷ 0 ∷ []
unfolding written message_bytes
an_empty_text = ap message_bytes (fields-Str [])

a_text : message_bytes (value_fields (Str (195 ∷ 169 ∷ []))) ≡ 10 ∷ 2 ∷ 195 ∷ 169 ∷ []
unfolding written message_bytes
a_text = ap message_bytes (fields-Str (195 ∷ 169 ∷ []))

a_false : message_bytes (value_fields (Truth false)) ≡ 16 ∷ 0 ∷ []
unfolding written message_bytes
a_false = ap message_bytes (fields-Truth false)

a_zero : message_bytes (value_fields (Int (pos 0))) ≡ 24 ∷ 0 ∷ []
unfolding written message_bytes
a_zero = ap message_bytes (fields-Int (pos 0))

-- -2
minus_two : message_bytes (value_fields (Int (negsuc 1))) ≡ 24 ∷ 254 ∷ 255 ∷ 255 ∷ 255 ∷ 255 ∷ 255 ∷ 255 ∷ 255 ∷ 255 ∷ 1 ∷ []
unfolding written message_bytes
minus_two = ap message_bytes (fields-Int (negsuc 1))

-- 1.0
a_double : message_bytes (value_fields (Double (fin false 1 (pos 0)))) ≡ 33 ∷ 0 ∷ 0 ∷ 0 ∷ 0 ∷ 0 ∷ 0 ∷ 240 ∷ 63 ∷ []
unfolding written message_bytes to_bits
a_double = ap message_bytes (fields-Double (fin false 1 (pos 0)))

-- [true, nothing]
an_array : message_bytes (value_fields (Array (Truth true ∷ Empty ∷ []))) ≡ 42 ∷ 6 ∷ 10 ∷ 2 ∷ 16 ∷ 1 ∷ 10 ∷ 0 ∷ []
unfolding written message_bytes
an_array = simp (fields-Array, fields-Truth, fields-Empty)

-- { k: 5 }, and a pair without a value
a_pair : message_bytes (pair_fields (record { key = 107 ∷ []; value = Int (pos 5) })) ≡ 10 ∷ 1 ∷ 107 ∷ 18 ∷ 2 ∷ 24 ∷ 5 ∷ []
unfolding written message_bytes
a_pair = simp (fields-pair, fields-Int)

no_value : message_bytes (pair_fields (record { key = 107 ∷ []; value = Empty })) ≡ 10 ∷ 1 ∷ 107 ∷ []
unfolding written message_bytes
no_value = simp (fields-pair, fields-Empty)

-- ---- messages

-- `message` "ok", `code` 2
a_status : message_bytes (status_fields (record { message = 111 ∷ 107 ∷ []; code = pos 2 })) ≡ 18 ∷ 2 ∷ 111 ∷ 107 ∷ 24 ∷ 2 ∷ []
unfolding written message_bytes
a_status = refl

-- a negative enumeration takes ten bytes
minus_one : message_bytes (status_fields (record { message = []; code = negsuc 0 })) ≡ 24 ∷ 255 ∷ 255 ∷ 255 ∷ 255 ∷ 255 ∷ 255 ∷ 255 ∷ 255 ∷ 255 ∷ 1 ∷ []
unfolding written message_bytes
minus_one = refl

-- `time_unix_nano` 1, `name` "a", `dropped_attributes_count` 2
an_event : message_bytes (event_fields (record { time_unix_nano = 1; name = 97 ∷ []; attributes = []; dropped_attributes_count = 2 })) ≡ 9 ∷ 1 ∷ 0 ∷ 0 ∷ 0 ∷ 0 ∷ 0 ∷ 0 ∷ 0 ∷ 18 ∷ 1 ∷ 97 ∷ 32 ∷ 2 ∷ []
unfolding written message_bytes
an_event = refl

-- ids of a link are the bytes of their digits: "ab01"
a_link : message_bytes (link_fields (record { trace_id = 97 ∷ 98 ∷ 48 ∷ 49 ∷ []; span_id = []; trace_state = []; attributes = []; dropped_attributes_count = 0; flags = 257 })) ≡ 10 ∷ 2 ∷ 171 ∷ 1 ∷ 53 ∷ 1 ∷ 1 ∷ 0 ∷ 0 ∷ []
unfolding written message_bytes hex_of decode_pairs
a_link = refl

-- "a": half a byte
no_hex : hex_fault (97 ∷ []) ≡ Some NotHex
unfolding hex_of decode_pairs
no_hex = refl

-- a span of which nothing is told
no_span : message_bytes (span_fields (plain_span None 0 0 0)) ≡ []
unfolding written message_bytes
no_span = refl

-- ids 1 to 16 and 1 to 8, "GET /", a server, from 1 to 2^64 - 1, flags 257
a_span :
    message_bytes (span_fields (record (plain_span (Some (record { trace = 1 ∷ 2 ∷ 3 ∷ 4 ∷ 5 ∷ 6 ∷ 7 ∷ 8 ∷ 9 ∷ 10 ∷ 11 ∷ 12 ∷ 13 ∷ 14 ∷ 15 ∷ 16 ∷ []; span = 1 ∷ 2 ∷ 3 ∷ 4 ∷ 5 ∷ 6 ∷ 7 ∷ 8 ∷ []; parent = None })) 0 1 18446744073709551615) { name = 71 ∷ 69 ∷ 84 ∷ 32 ∷ 47 ∷ []; kind = pos 2; flags = 257 }))
    ≡ 10 ∷ 16 ∷ 1 ∷ 2 ∷ 3 ∷ 4 ∷ 5 ∷ 6 ∷ 7 ∷ 8 ∷ 9 ∷ 10 ∷ 11 ∷ 12 ∷ 13 ∷ 14 ∷ 15 ∷ 16 ∷ 18 ∷ 8 ∷ 1 ∷ 2 ∷ 3 ∷ 4 ∷ 5 ∷ 6 ∷ 7 ∷ 8 ∷ 42 ∷ 5 ∷ 71 ∷ 69 ∷ 84 ∷ 32 ∷ 47 ∷ 48 ∷ 2 ∷ 57 ∷ 1 ∷ 0 ∷ 0 ∷ 0 ∷ 0 ∷ 0 ∷ 0 ∷ 0 ∷ 65 ∷ 255 ∷ 255 ∷ 255 ∷ 255 ∷ 255 ∷ 255 ∷ 255 ∷ 255 ∷ 133 ∷ 1 ∷ 1 ∷ 1 ∷ 0 ∷ 0 ∷ []
unfolding written message_bytes
a_span = refl

-- two resources' spans: "u" is the schema URL of the first, of the second nothing is told
a_request : request_bytes (record { resource_spans = record { resource = no_resource; scope_spans = []; schema_url = 117 ∷ [] } ∷ record { resource = no_resource; scope_spans = []; schema_url = [] } ∷ [] })
    ≡ 10 ∷ 3 ∷ 26 ∷ 1 ∷ 117 ∷ 10 ∷ 0 ∷ []
unfolding written message_bytes
a_request = refl

-- a scope "a", version "1", and a resource of which 7 attributes were dropped
a_scope : request_bytes (record { resource_spans = record { resource = record no_resource { dropped_attributes_count = 7 }; scope_spans = record { scope = record no_scope { name = 97 ∷ []; version = 49 ∷ [] }; spans = []; schema_url = [] } ∷ []; schema_url = [] } ∷ [] })
    ≡ 10 ∷ 14 ∷ 10 ∷ 2 ∷ 16 ∷ 7 ∷ 18 ∷ 8 ∷ 10 ∷ 6 ∷ 10 ∷ 1 ∷ 97 ∷ 18 ∷ 1 ∷ 49 ∷ []
unfolding written message_bytes
a_scope = refl
