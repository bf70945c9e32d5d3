-- Rows of the definition, by computation.
use Rattle.std.specs.Prelude.{◌≡◌, ℕ, List, [], ◌∷◌, Ok, Err, Some, None, true, false, pos, negsuc, refl}
use Rattle.base64.specs.Rfc4648.{encode_symbols}
use Rattle.std.specs.Str.{is_utf8, chars}
use lib.Utf8.{encode}
use Rattle.hex.specs.Hex.{encode_with}
use Rattle.std.proofs.Common.{rules}
use Rattle.std.specs.Float.{binary64}
use Rattle.std.specs.Float.Ieee.{of_bits}
use Rattle.protobuf_wire.specs.declared.fault.WireFault.TheVariants as wire_faults
use Rattle.protobuf_wire.specs.Wire.{base128, number, little_endian, value_of, field_of, next_field}
use Rattle.otlp_types.specs.Empty.{plain_span}
use Rattle.otlp_types.specs.declared.value.AnyValue.{AnyValue, out-AnyValue, Empty, Str, Bool as Truth, Int, Double, Array, KvList, Bytes, the_lemmas}
use Rattle.otlp_protobuf.specs.declared.protobuf_fault.ProtobufFault.TheVariants as faults
use Rattle.otlp_protobuf.specs.Kinds.{merged_in, merged}
use Rattle.otlp_protobuf.specs.Values.{value_to, items_in, pairs_in}
use Rattle.otlp_protobuf.specs.Reading.{status_step, no_status, event, link, span, request_of}

-- ---- `Status`

no_fields : merged status_step no_status [] ≡ Ok no_status
unfolding base128 number little_endian value_of field_of next_field merged_in is_utf8 chars encode
no_fields = refl

-- `message` "ok", `code` 2
a_status : merged status_step no_status (18 ∷ 2 ∷ 111 ∷ 107 ∷ 24 ∷ 2 ∷ []) ≡ Ok (record { message = 111 ∷ 107 ∷ []; code = pos 2 })
unfolding base128 number little_endian value_of field_of next_field merged_in is_utf8 chars encode
a_status = refl

-- the last one stands
codes_twice : merged status_step no_status (24 ∷ 2 ∷ 24 ∷ 1 ∷ []) ≡ Ok (record { message = []; code = pos 1 })
unfolding base128 number little_endian value_of field_of next_field merged_in is_utf8 chars encode
codes_twice = refl

-- -1, and a number that has no name
minus_one : merged status_step no_status (24 ∷ 255 ∷ 255 ∷ 255 ∷ 255 ∷ 255 ∷ 255 ∷ 255 ∷ 255 ∷ 255 ∷ 1 ∷ []) ≡ Ok (record { message = []; code = negsuc 0 })
unfolding base128 number little_endian value_of field_of next_field merged_in is_utf8 chars encode
minus_one = refl

no_name : merged status_step no_status (24 ∷ 200 ∷ 1 ∷ []) ≡ Ok (record { message = []; code = pos 200 })
unfolding base128 number little_endian value_of field_of next_field merged_in is_utf8 chars encode
no_name = refl

-- field 1 is unknown, and field 3 of another wire type too
unknown : merged status_step no_status (8 ∷ 7 ∷ 26 ∷ 1 ∷ 97 ∷ 24 ∷ 1 ∷ []) ≡ Ok (record { message = []; code = pos 1 })
unfolding base128 number little_endian value_of field_of next_field merged_in is_utf8 chars encode
unknown = refl

-- a text that is not in UTF-8
no_text : merged status_step no_status (18 ∷ 1 ∷ 255 ∷ []) ≡ Err faults.Utf8
unfolding base128 number little_endian value_of field_of next_field merged_in is_utf8 chars encode
no_text = refl

cut : merged status_step no_status (18 ∷ 3 ∷ 111 ∷ 107 ∷ []) ≡ Err (faults.Wire wire_faults.Truncated)
unfolding base128 number little_endian value_of field_of next_field merged_in is_utf8 chars encode
cut = refl

-- ---- `AnyValue`

a_text : value_to 1 Empty (10 ∷ 1 ∷ 97 ∷ []) ≡ Ok (Str (97 ∷ []))
unfolding base128 number little_endian value_of field_of next_field merged_in value_to is_utf8 chars encode encode_symbols
a_text = refl

a_truth : value_to 1 Empty (16 ∷ 2 ∷ []) ≡ Ok (Truth true)
unfolding base128 number little_endian value_of field_of next_field merged_in value_to is_utf8 chars encode encode_symbols
a_truth = refl

-- -2
an_int : value_to 1 Empty (24 ∷ 254 ∷ 255 ∷ 255 ∷ 255 ∷ 255 ∷ 255 ∷ 255 ∷ 255 ∷ 255 ∷ 1 ∷ []) ≡ Ok (Int (negsuc 1))
unfolding base128 number little_endian value_of field_of next_field merged_in value_to is_utf8 chars encode encode_symbols
an_int = refl

-- 1.0
a_double : value_to 1 Empty (33 ∷ 0 ∷ 0 ∷ 0 ∷ 0 ∷ 0 ∷ 0 ∷ 240 ∷ 63 ∷ []) ≡ Ok (Double (of_bits binary64 4607182418800017408))
unfolding base128 number little_endian value_of field_of next_field merged_in value_to is_utf8 chars encode encode_symbols
a_double = refl

-- "/w=="
some_bytes : value_to 1 Empty (58 ∷ 1 ∷ 255 ∷ []) ≡ Ok (Bytes (47 ∷ 119 ∷ 61 ∷ 61 ∷ []))
unfolding base128 number little_endian value_of field_of next_field merged_in value_to is_utf8 chars encode encode_symbols
some_bytes = refl

-- of a text and a truth value the last stands
last_kind : value_to 1 Empty (10 ∷ 1 ∷ 97 ∷ 16 ∷ 0 ∷ []) ≡ Ok (Truth false)
unfolding base128 number little_endian value_of field_of next_field merged_in value_to is_utf8 chars encode encode_symbols
last_kind = refl

no_items : items_in (out-AnyValue Empty) ≡ []
no_items = search (rules, the_lemmas)

no_pairs : pairs_in (out-AnyValue Empty) ≡ []
no_pairs = search (rules, the_lemmas)

its_items : (vs : List AnyValue) → items_in (out-AnyValue (Array vs)) ≡ vs
its_items vs = search (rules, the_lemmas)

text_items : (s : List ℕ) → items_in (out-AnyValue (Str s)) ≡ []
text_items s = search (rules, the_lemmas)

-- [true, nothing]
an_array : value_to 2 Empty (42 ∷ 6 ∷ 10 ∷ 2 ∷ 16 ∷ 1 ∷ 10 ∷ 0 ∷ []) ≡ Ok (Array (Truth true ∷ Empty ∷ []))
unfolding base128 number little_endian value_of field_of next_field merged_in value_to is_utf8 chars encode encode_symbols
an_array = simp no_items

-- one level too deep
too_deep : value_to 1 Empty (42 ∷ 6 ∷ 10 ∷ 2 ∷ 16 ∷ 1 ∷ 10 ∷ 0 ∷ []) ≡ Err faults.TooDeep
unfolding base128 number little_endian value_of field_of next_field merged_in value_to is_utf8 chars encode encode_symbols
too_deep = refl

-- an array that comes in two parts
two_parts : value_to 2 Empty (42 ∷ 4 ∷ 10 ∷ 2 ∷ 16 ∷ 1 ∷ 42 ∷ 4 ∷ 10 ∷ 2 ∷ 16 ∷ 0 ∷ []) ≡ Ok (Array (Truth true ∷ Truth false ∷ []))
unfolding base128 number little_endian value_of field_of next_field merged_in value_to is_utf8 chars encode encode_symbols
two_parts = simp (no_items, its_items)

-- with a text between them the first part is gone
not_two_parts : value_to 2 Empty (42 ∷ 4 ∷ 10 ∷ 2 ∷ 16 ∷ 1 ∷ 10 ∷ 0 ∷ 42 ∷ 4 ∷ 10 ∷ 2 ∷ 16 ∷ 0 ∷ []) ≡ Ok (Array (Truth false ∷ []))
unfolding base128 number little_endian value_of field_of next_field merged_in value_to is_utf8 chars encode encode_symbols
not_two_parts = simp text_items

-- { k: 5 }
a_list : value_to 2 Empty (50 ∷ 9 ∷ 10 ∷ 7 ∷ 10 ∷ 1 ∷ 107 ∷ 18 ∷ 2 ∷ 24 ∷ 5 ∷ []) ≡ Ok (KvList (record { key = 107 ∷ []; value = Int (pos 5) } ∷ []))
unfolding base128 number little_endian value_of field_of next_field merged_in value_to is_utf8 chars encode encode_symbols
a_list = simp no_pairs

-- ---- messages

-- `time_unix_nano` 1, `name` "a", `dropped_attributes_count` 2
an_event : event false (9 ∷ 1 ∷ 0 ∷ 0 ∷ 0 ∷ 0 ∷ 0 ∷ 0 ∷ 0 ∷ 18 ∷ 1 ∷ 97 ∷ 32 ∷ 2 ∷ []) ≡ Ok (record { time_unix_nano = 1; name = 97 ∷ []; attributes = []; dropped_attributes_count = 2 })
unfolding base128 number little_endian value_of field_of next_field merged_in value_to is_utf8 chars encode encode_symbols
an_event = refl

-- ids of a link stand as hex digits, also where they have another length
a_link : link false (10 ∷ 2 ∷ 171 ∷ 1 ∷ 53 ∷ 1 ∷ 1 ∷ 0 ∷ 0 ∷ []) ≡ Ok (record { trace_id = 97 ∷ 98 ∷ 48 ∷ 49 ∷ []; span_id = []; trace_state = []; attributes = []; dropped_attributes_count = 0; flags = 257 })
unfolding base128 number little_endian value_of field_of next_field merged_in value_to is_utf8 chars encode encode_with
a_link = refl

-- a span of which nothing is told has no ids
no_span : span false [] ≡ Ok (plain_span None 0 0 0)
unfolding base128 number little_endian value_of field_of next_field merged_in value_to is_utf8 chars encode encode_symbols
no_span = refl

-- a status that comes in two parts: its code, and then its message
a_span : span false (48 ∷ 2 ∷ 122 ∷ 2 ∷ 24 ∷ 2 ∷ 122 ∷ 3 ∷ 18 ∷ 1 ∷ 97 ∷ []) ≡ Ok (record (plain_span None 0 0 0) { kind = pos 2; status = record { message = 97 ∷ []; code = pos 2 } })
unfolding base128 number little_endian value_of field_of next_field merged_in value_to is_utf8 chars encode encode_symbols
a_span = refl

-- trace id 1, span id 2, and a parent of eight zeros: a root
a_root : span false (10 ∷ 16 ∷ 0 ∷ 0 ∷ 0 ∷ 0 ∷ 0 ∷ 0 ∷ 0 ∷ 0 ∷ 0 ∷ 0 ∷ 0 ∷ 0 ∷ 0 ∷ 0 ∷ 0 ∷ 1 ∷ 18 ∷ 8 ∷ 0 ∷ 0 ∷ 0 ∷ 0 ∷ 0 ∷ 0 ∷ 0 ∷ 2 ∷ 34 ∷ 8 ∷ 0 ∷ 0 ∷ 0 ∷ 0 ∷ 0 ∷ 0 ∷ 0 ∷ 0 ∷ [])
    ≡ Ok (plain_span (Some (record { trace = 0 ∷ 0 ∷ 0 ∷ 0 ∷ 0 ∷ 0 ∷ 0 ∷ 0 ∷ 0 ∷ 0 ∷ 0 ∷ 0 ∷ 0 ∷ 0 ∷ 0 ∷ 1 ∷ []; span = 0 ∷ 0 ∷ 0 ∷ 0 ∷ 0 ∷ 0 ∷ 0 ∷ 2 ∷ []; parent = None })) 0 0 0)
unfolding base128 number little_endian value_of field_of next_field merged_in value_to is_utf8 chars encode encode_symbols
a_root = refl

an_empty_request : request_of false [] ≡ Ok (record { resource_spans = [] })
unfolding base128 number little_endian value_of field_of next_field merged_in value_to is_utf8 chars encode encode_symbols
an_empty_request = refl

-- a resource's spans of which nothing is told but the schema URL "u"
a_request : request_of false (10 ∷ 3 ∷ 26 ∷ 1 ∷ 117 ∷ []) ≡ Ok (record { resource_spans = record { resource = record { attributes = []; dropped_attributes_count = 0 }; scope_spans = []; schema_url = 117 ∷ [] } ∷ [] })
unfolding base128 number little_endian value_of field_of next_field merged_in value_to is_utf8 chars encode encode_symbols
a_request = refl

-- the second resource's spans end within a field
a_cut_request : request_of false (10 ∷ 0 ∷ 10 ∷ 1 ∷ 26 ∷ []) ≡ Err (faults.Wire wire_faults.Truncated)
unfolding base128 number little_endian value_of field_of next_field merged_in value_to is_utf8 chars encode encode_symbols
a_cut_request = refl
