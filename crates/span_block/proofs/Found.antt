-- What a walk over a block finds is what its span has.
-- For walks.rt.
use Rattle.std.proofs.Common.{◌≡◌, ℕ, ◌<◌, ◌^◌, ℤ, List, [], length, Option, Some, None, option_map, option_and_then, unwrap_or, Ok, refl, ◌∙◌, ap}
use Rattle.std.specs.Prelude.{FitsSigned}
use Rattle.std.specs.Int.{w32, cast_signed, cast_unsigned}
use Rattle.std.proofs.Math.Facts.{to_z-of_z}
use Rattle.protobuf_wire.specs.Wire.{fields_of}
use Rattle.protobuf_writer.specs.Writing.{message_bytes}
use Rattle.span_ids.specs.Id.{id_from}
use Rattle.otlp_types.specs.declared.span.Ids.{Ids}
use Rattle.otlp_types.specs.declared.span.Status.{Status}
use Rattle.otlp_types.specs.declared.span.Span.{Span}
use Rattle.otlp_protobuf.specs.Kinds.{int32}
use Rattle.otlp_protobuf_encode.specs.Writing.{int_bits, span_fields, status_fields}
use Rattle.otlp_protobuf_encode.specs.ReadsBack.{AreIds, ParentIsId}
use Rattle.otlp_protobuf_encode.proofs.NumbersBack.{int32-back}
use Rattle.span_block.specs.Holds.{StatusHolds, SpanHolds}
use Rattle.span_block.specs.Walk.{first_field, number_in, fixed64_in, fixed32_in, bytes_in}
use Rattle.span_block.proofs.Fields.{text-found, id-found, message-found, number-found, fixed64-found, fixed32-found, span_found, status_read, status_found}

-- ---- what the first field of a number says

pub name_found : (s : Span) → bytes_in (first_field 5 (span_fields s)) ≡ s.name
name_found s = ap bytes_in (span_found 5 s) ∙ text-found 5 s.name

pub state_found : (s : Span) → bytes_in (first_field 3 (span_fields s)) ≡ s.trace_state
state_found s = ap bytes_in (span_found 3 s) ∙ text-found 3 s.trace_state

pub kind_found : (s : Span) → SpanHolds s → int32 (number_in (first_field 6 (span_fields s))) ≡ s.kind
kind_found s h = ap int32 (ap number_in (span_found 6 s) ∙ number-found 6 (int_bits s.kind)) ∙ int32-back s.kind h.times.kind

pub start_found : (s : Span) → fixed64_in (first_field 7 (span_fields s)) ≡ s.start_time_unix_nano
start_found s = ap fixed64_in (span_found 7 s) ∙ fixed64-found 7 s.start_time_unix_nano

pub end_found : (s : Span) → fixed64_in (first_field 8 (span_fields s)) ≡ s.end_time_unix_nano
end_found s = ap fixed64_in (span_found 8 s) ∙ fixed64-found 8 s.end_time_unix_nano

pub flags_found : (s : Span) → fixed32_in (first_field 16 (span_fields s)) ≡ s.flags
flags_found s = ap fixed32_in (span_found 16 s) ∙ fixed32-found 16 s.flags

-- ---- ids

trace_of : (found : Option Ids) → AreIds found → id_from 16 (unwrap_or (option_map (λ (ids : Ids). ids.trace) found) []) ≡ option_map (λ (ids : Ids). ids.trace) found
trace_of None h = refl
trace_of (Some ids) h = h.0

pub trace_found : (s : Span) → AreIds s.ids → id_from 16 (bytes_in (first_field 1 (span_fields s))) ≡ option_map (λ (ids : Ids). ids.trace) s.ids
trace_found s h = ap (id_from 16) (ap bytes_in (span_found 1 s) ∙ id-found 1 (option_map (λ (ids : Ids). ids.trace) s.ids)) ∙ trace_of s.ids h

span_of_ids : (found : Option Ids) → AreIds found → id_from 8 (unwrap_or (option_map (λ (ids : Ids). ids.span) found) []) ≡ option_map (λ (ids : Ids). ids.span) found
span_of_ids None h = refl
span_of_ids (Some ids) h = h.1

pub id_found : (s : Span) → AreIds s.ids → id_from 8 (bytes_in (first_field 2 (span_fields s))) ≡ option_map (λ (ids : Ids). ids.span) s.ids
id_found s h = ap (id_from 8) (ap bytes_in (span_found 2 s) ∙ id-found 2 (option_map (λ (ids : Ids). ids.span) s.ids)) ∙ span_of_ids s.ids h

parent_of : (found : Option (List ℕ)) → ParentIsId found → id_from 8 (unwrap_or found []) ≡ found
parent_of None h = refl
parent_of (Some id) h = h

parent_of_ids : (found : Option Ids) → AreIds found → id_from 8 (unwrap_or (option_and_then (λ (ids : Ids). ids.parent) found) []) ≡ option_and_then (λ (ids : Ids). ids.parent) found
parent_of_ids None h = refl
parent_of_ids (Some ids) h = parent_of ids.parent h.2

pub parent_found : (s : Span) → AreIds s.ids → id_from 8 (bytes_in (first_field 4 (span_fields s))) ≡ option_and_then (λ (ids : Ids). ids.parent) s.ids
parent_found s h = ap (id_from 8) (ap bytes_in (span_found 4 s) ∙ id-found 4 (option_and_then (λ (ids : Ids). ids.parent) s.ids)) ∙ parent_of_ids s.ids h

-- ---- the status

pub status_is : (s : Span) → bytes_in (first_field 15 (span_fields s)) ≡ message_bytes (status_fields s.status)
status_is s = ap bytes_in (span_found 15 s) ∙ message-found 15 (status_fields s.status)

pub status_fields_read : (s : Span) (message : List ℕ) → StatusHolds s.status → message ≡ bytes_in (first_field 15 (span_fields s)) → length message < 2 ^ 64 → fields_of message ≡ Ok (status_fields s.status)
status_fields_read s message h e room = status_read s.status message h.code (e ∙ status_is s) room

pub code_found : (s : Status) → FitsSigned w32 s.code → int32 (number_in (first_field 3 (status_fields s))) ≡ s.code
code_found s fits = ap int32 (ap number_in (status_found 3 s) ∙ number-found 3 (int_bits s.code)) ∙ int32-back s.code fits

pub status_message_found : (s : Status) → bytes_in (first_field 2 (status_fields s)) ≡ s.message
status_message_found s = ap bytes_in (status_found 2 s) ∙ text-found 2 s.message

-- ---- signed numbers

-- what is returned as an `i32` is that
pub signed_again : (r z : ℤ) → r ≡ z → FitsSigned w32 z → cast_signed w32 (cast_unsigned w32 r) ≡ z
signed_again r z e fits = ap (λ x. cast_signed w32 (cast_unsigned w32 x)) e ∙ to_z-of_z fits
