-- What is found in the fields of messages is what they hold.
-- For values.rt, parts.rt and span.rt.
use Rattle.std.proofs.Common.{◌≡◌, ℕ, ◌<◌, ◌^◌, ℤ, pos, negsuc, List, [], ◌∷◌, length, true, false, ◌==◌, Option, Some, None, option_map, option_and_then, unwrap_or, Ok, refl, sym, ◌∙◌, ap, arith}
use Rattle.std.specs.Prelude.{FitsSigned}
use Rattle.std.specs.Int.{w32, w64}
use Rattle.std.specs.Int.{cast_signed, cast_unsigned}
use Rattle.std.proofs.lemmas.Bool.{eqb-true}
use Rattle.std.proofs.Math.Facts.{to_z-of_z}
use Rattle.hex.specs.Hex.{encode_lower, encode_with}
use Rattle.serde_json.specs.Data.{string}
use Rattle.protobuf_wire.specs.Wire.{fields_of}
use Rattle.protobuf_writer.specs.Writing.{message_bytes}
use Rattle.span_ids.specs.Id.{id_from}
use Rattle.otlp_types.specs.declared.value.KeyValue.{KeyValue}
use Rattle.otlp_types.specs.declared.span.Ids.{Ids}
use Rattle.otlp_types.specs.declared.span.Event.{Event}
use Rattle.otlp_types.specs.declared.span.Link.{Link}
use Rattle.otlp_types.specs.declared.span.Status.{Status}
use Rattle.otlp_types.specs.declared.span.Span.{Span}
use Rattle.otlp_protobuf.specs.Kinds.{int64, uint32}
use Rattle.otlp_protobuf_encode.specs.Writing.{int_bits, hex_of, value_fields, pair_fields, event_fields, link_fields, status_fields, span_fields}
use Rattle.otlp_protobuf_encode.specs.ReadsBack.{AreIds, ParentIsId, IsLower}
use Rattle.otlp_protobuf_encode.proofs.NumbersBack.{int64-back}
use Rattle.otlp_json.specs.Writing.{text_field, trace_field, span_field, parent_field}
use Rattle.span_block.specs.Walk.{first_field, number_in, fixed64_in, fixed32_in, bytes_in}
use Rattle.span_block.proofs.Fields.{plain_read, text-found, id-found, message-found, number-found, fixed64-found, fixed32-found, span_found, status_found}
use Rattle.span_block.proofs.PairsLeft.{pair_found, pair_plain}
use Rattle.block_json.proofs.Groups.{event_found, link_found}

-- ---- numbers

pub small : (k : ℕ) → k < 2 ^ 32 → uint32 k ≡ k
small k h = omega (arith, h)

wider : (z : ℤ) → FitsSigned w32 z → FitsSigned w64 z
wider (pos n) h = let low : n < 2 ^ 31 = h.sfits in record { sfits = let e : n < 2 ^ 63 = omega (arith, low) in e }
wider (negsuc n) h = let low : n < 2 ^ 31 = h.sfits in record { sfits = let e : n < 2 ^ 63 = omega (arith, low) in e }

pub enum_back : (z : ℤ) → FitsSigned w32 z → int64 (int_bits z) ≡ z
enum_back z h = int64-back z (wider z h)

-- what is returned as an `i64` is that
pub signed_again : (r z : ℤ) → r ≡ z → FitsSigned w32 z → cast_signed w64 (cast_unsigned w64 r) ≡ z
signed_again r z e h = ap (λ x. cast_signed w64 (cast_unsigned w64 x)) e ∙ to_z-of_z (wider z h)

-- only 0 has no bits
pub is_zero : (r z : ℤ) → r ≡ z → FitsSigned w32 z → cast_unsigned w64 r ≡ 0 → z ≡ pos 0
is_zero r z e h zero = sym (to_z-of_z (wider z h)) ∙ ap (λ x. cast_signed w64 (cast_unsigned w64 x)) (sym e) ∙ ap (cast_signed w64) zero

-- ---- texts of digits

pub no-hex : (s : List ℕ) → (length s == 0) ≡ true → text_field (encode_lower s) ≡ None
unfolding encode_with
no-hex [] h = refl
no-hex (b ∷ s) h = let none = eqb-true (length (b ∷ s)) 0 h in absurd (omega arith)

pub some-hex : (s : List ℕ) → (length s == 0) ≡ false → text_field (encode_lower s) ≡ Some (string (encode_lower s))
unfolding encode_with
some-hex [] h = absurd (cc h)
some-hex (b ∷ s) h = refl

id16_is : (id : List ℕ) → id_from 16 id ≡ Some id → text_field (encode_lower id) ≡ Some (string (encode_lower id))
unfolding encode_with
id16_is [] e = absurd (cc e)
id16_is (b ∷ s) e = refl

id8_is : (id : List ℕ) → id_from 8 id ≡ Some id → text_field (encode_lower id) ≡ Some (string (encode_lower id))
unfolding encode_with
id8_is [] e = absurd (cc e)
id8_is (b ∷ s) e = refl

none_is : text_field (encode_lower []) ≡ None
unfolding encode_with
none_is = refl

pub trace_is : (o : Option Ids) → AreIds o → text_field (encode_lower (unwrap_or (option_map (λ (ids : Ids). ids.trace) o) [])) ≡ trace_field o
trace_is None h = none_is
trace_is (Some ids) h = id16_is ids.trace h.0

pub span_is : (o : Option Ids) → AreIds o → text_field (encode_lower (unwrap_or (option_map (λ (ids : Ids). ids.span) o) [])) ≡ span_field o
span_is None h = none_is
span_is (Some ids) h = id8_is ids.span h.1

parent_of : (o : Option (List ℕ)) → ParentIsId o → text_field (encode_lower (unwrap_or o [])) ≡ option_map (λ p. string (encode_lower p)) o
parent_of None h = none_is
parent_of (Some id) h = id8_is id h

pub parent_is : (o : Option Ids) → AreIds o → text_field (encode_lower (unwrap_or (option_and_then (λ (ids : Ids). ids.parent) o) [])) ≡ parent_field o
parent_is None h = none_is
parent_is (Some ids) h = parent_of ids.parent h.2

-- ---- a pair

pub pair_read : (p : KeyValue) (message : List ℕ) → message ≡ message_bytes (pair_fields p) → length message < 2 ^ 64 → fields_of message ≡ Ok (pair_fields p)
pair_read p message is room = plain_read (pair_fields p) message (pair_plain p) is room

pub pair_value : (p : KeyValue) → bytes_in (first_field 2 (pair_fields p)) ≡ message_bytes (value_fields p.value)
pair_value p = ap bytes_in (pair_found 2 p) ∙ message-found 2 (value_fields p.value)

-- ---- an event

pub event_name : (e : Event) → bytes_in (first_field 2 (event_fields e)) ≡ e.name
event_name e = ap bytes_in (event_found 2 e) ∙ text-found 2 e.name

pub event_time : (e : Event) → fixed64_in (first_field 1 (event_fields e)) ≡ e.time_unix_nano
event_time e = ap fixed64_in (event_found 1 e) ∙ fixed64-found 1 e.time_unix_nano

pub event_dropped : (e : Event) → e.dropped_attributes_count < 2 ^ 32 → uint32 (number_in (first_field 4 (event_fields e))) ≡ e.dropped_attributes_count
event_dropped e h = ap uint32 (ap number_in (event_found 4 e) ∙ number-found 4 e.dropped_attributes_count) ∙ small e.dropped_attributes_count h

-- ---- a link

pub link_trace : (l : Link) → IsLower l.trace_id → encode_lower (bytes_in (first_field 1 (link_fields l))) ≡ l.trace_id
link_trace l h = ap encode_lower (ap bytes_in (link_found 1 l) ∙ text-found 1 (unwrap_or (hex_of l.trace_id) [])) ∙ h

pub link_span : (l : Link) → IsLower l.span_id → encode_lower (bytes_in (first_field 2 (link_fields l))) ≡ l.span_id
link_span l h = ap encode_lower (ap bytes_in (link_found 2 l) ∙ text-found 2 (unwrap_or (hex_of l.span_id) [])) ∙ h

pub link_state : (l : Link) → bytes_in (first_field 3 (link_fields l)) ≡ l.trace_state
link_state l = ap bytes_in (link_found 3 l) ∙ text-found 3 l.trace_state

pub link_dropped : (l : Link) → l.dropped_attributes_count < 2 ^ 32 → uint32 (number_in (first_field 5 (link_fields l))) ≡ l.dropped_attributes_count
link_dropped l h = ap uint32 (ap number_in (link_found 5 l) ∙ number-found 5 l.dropped_attributes_count) ∙ small l.dropped_attributes_count h

pub link_flags : (l : Link) → fixed32_in (first_field 6 (link_fields l)) ≡ l.flags
link_flags l = ap fixed32_in (link_found 6 l) ∙ fixed32-found 6 l.flags

-- ---- a span

pub trace_found : (s : Span) → bytes_in (first_field 1 (span_fields s)) ≡ unwrap_or (option_map (λ (ids : Ids). ids.trace) s.ids) []
trace_found s = ap bytes_in (span_found 1 s) ∙ id-found 1 (option_map (λ (ids : Ids). ids.trace) s.ids)

pub id_found : (s : Span) → bytes_in (first_field 2 (span_fields s)) ≡ unwrap_or (option_map (λ (ids : Ids). ids.span) s.ids) []
id_found s = ap bytes_in (span_found 2 s) ∙ id-found 2 (option_map (λ (ids : Ids). ids.span) s.ids)

pub parent_found : (s : Span) → bytes_in (first_field 4 (span_fields s)) ≡ unwrap_or (option_and_then (λ (ids : Ids). ids.parent) s.ids) []
parent_found s = ap bytes_in (span_found 4 s) ∙ id-found 4 (option_and_then (λ (ids : Ids). ids.parent) s.ids)

pub kind_found : (s : Span) → FitsSigned w32 s.kind → int64 (number_in (first_field 6 (span_fields s))) ≡ s.kind
kind_found s h = ap int64 (ap number_in (span_found 6 s) ∙ number-found 6 (int_bits s.kind)) ∙ enum_back s.kind h

pub dropped_attributes_found : (s : Span) → s.dropped_attributes_count < 2 ^ 32 → uint32 (number_in (first_field 10 (span_fields s))) ≡ s.dropped_attributes_count
dropped_attributes_found s h = ap uint32 (ap number_in (span_found 10 s) ∙ number-found 10 s.dropped_attributes_count) ∙ small s.dropped_attributes_count h

pub dropped_events_found : (s : Span) → s.dropped_events_count < 2 ^ 32 → uint32 (number_in (first_field 12 (span_fields s))) ≡ s.dropped_events_count
dropped_events_found s h = ap uint32 (ap number_in (span_found 12 s) ∙ number-found 12 s.dropped_events_count) ∙ small s.dropped_events_count h

pub dropped_links_found : (s : Span) → s.dropped_links_count < 2 ^ 32 → uint32 (number_in (first_field 14 (span_fields s))) ≡ s.dropped_links_count
dropped_links_found s h = ap uint32 (ap number_in (span_found 14 s) ∙ number-found 14 s.dropped_links_count) ∙ small s.dropped_links_count h

-- ---- a status

pub code_found : (s : Status) → FitsSigned w32 s.code → int64 (number_in (first_field 3 (status_fields s))) ≡ s.code
code_found s h = ap int64 (ap number_in (status_found 3 s) ∙ number-found 3 (int_bits s.code)) ∙ enum_back s.code h
