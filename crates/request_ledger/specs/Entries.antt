-- What the payloads say: requests, and notes of what has ended. Numbers have a fixed width, the low byte first.
use Rattle.std.specs.Prelude.{◌≡◌, ℕ, ◌<◌, ◌^◌, ◌==◌, ◌&&◌, nat_lt, if◌then◌else◌, true, Option, Some, None, option_map, option_and_then, List, ◌∷◌, ◌++◌, length, take, drop, slice_index}
use Rattle.std.specs.Int.{w16, w64, to_le_bytes, from_le_bytes}
use Rattle.span_ids.specs.Id.{is_id, id_from}
use Rattle.span_ids.specs.declared.keys.ConnKey.{ConnKey}
use Rattle.otlp_encoding.specs.declared.encoding.Encoding.{Encoding}
use Rattle.otlp_encoding.specs.declared.encoding.Encoding.TheVariants.{Json, Protobuf}
use Rattle.request_ledger.specs.declared.entries.RequestEntry.{RequestEntry}
use Rattle.request_ledger.specs.declared.notes.LedgerNote.{LedgerNote}
use Rattle.request_ledger.specs.declared.notes.LedgerNote.TheVariants.{Counted, Handed, Again}

-- a request as the ledger has it
pub record LedgerRequest : Type 0 where
  pub moment : ℕ
  pub connection : ConnKey
  pub encoding : Encoding
  pub text : List ℕ

abbrev pub request_of : ℕ → ConnKey → Encoding → List ℕ → LedgerRequest
request_of moment connection encoding text = record { moment = moment; connection = connection; encoding = encoding; text = text }

abbrev pub seen_request : RequestEntry → LedgerRequest
seen_request entry = request_of entry.moment entry.connection entry.encoding entry.text.now

abbrev pub kind_of : Encoding → ℕ
kind_of Json = 1
kind_of Protobuf = 2

-- a request's payload: the kind, the moment, the lane and its connection's ordinal there, and the text
abbrev pub request_bytes : LedgerRequest → List ℕ
request_bytes r =
    kind_of r.encoding ∷ to_le_bytes w64 r.moment ++ to_le_bytes w16 r.connection.lane ++ to_le_bytes w64 r.connection.ordinal ++ r.text

-- the encoding that a kind tells
abbrev pub encoding_of : ℕ → Option Encoding
encoding_of kind = if kind == 1 then Some Json else if kind == 2 then Some Protobuf else None

abbrev pub told_request : List ℕ → Encoding → LedgerRequest
told_request payload encoding =
    request_of (from_le_bytes w64 (drop 1 payload))
    (record { lane = from_le_bytes w16 (drop 9 payload); ordinal = from_le_bytes w64 (drop 11 payload) })
    encoding (drop 19 payload)

-- the request that a payload is
abbrev pub request_in : List ℕ → Option LedgerRequest
request_in payload = if nat_lt (length payload) 19 then None else option_map (told_request payload) (encoding_of (slice_index payload 0))

-- each number fits its width
pub record IsRequest (r : LedgerRequest) : Type 0 where
  pub moment : r.moment < 2 ^ 64
  pub lane : r.connection.lane < 2 ^ 16
  pub ordinal : r.connection.ordinal < 2 ^ 64

-- a note's payload
abbrev pub note_bytes : LedgerNote → List ℕ
note_bytes (Counted trace moment spans) = 3 ∷ trace ++ to_le_bytes w64 moment ++ to_le_bytes w64 spans
note_bytes (Handed trace span) = 4 ∷ trace ++ span
note_bytes (Again segment lane place) = 5 ∷ to_le_bytes w64 segment ++ to_le_bytes w16 lane ++ to_le_bytes w64 place

-- the trace of a note
abbrev pub told_trace : List ℕ → Option (List ℕ)
told_trace payload = id_from 16 (take 16 (drop 1 payload))

abbrev pub told_counted : List ℕ → Option LedgerNote
told_counted payload = option_map (λ trace. Counted trace (from_le_bytes w64 (drop 17 payload)) (from_le_bytes w64 (drop 25 payload))) (told_trace payload)

abbrev pub told_handed : List ℕ → Option LedgerNote
told_handed payload = option_and_then (λ trace. option_map (λ span. Handed trace span) (id_from 8 (drop 17 payload))) (told_trace payload)

abbrev pub told_again : List ℕ → LedgerNote
told_again payload = Again (from_le_bytes w64 (drop 1 payload)) (from_le_bytes w16 (drop 9 payload)) (from_le_bytes w64 (drop 11 payload))

-- the note that a payload is
abbrev pub note_in : List ℕ → Option LedgerNote
note_in payload =
    if (length payload == 33) && (slice_index payload 0 == 3) then told_counted payload
    else if (length payload == 25) && (slice_index payload 0 == 4) then told_handed payload
    else if (length payload == 19) && (slice_index payload 0 == 5) then Some (told_again payload)
    else None

-- an id is one, and each number fits its width
abbrev pub IsNote : LedgerNote → Type 0
IsNote (Counted trace moment spans) = (length trace ≡ 16) × (is_id trace ≡ true) × (moment < 2 ^ 64) × (spans < 2 ^ 64)
IsNote (Handed trace span) = (length trace ≡ 16) × (is_id trace ≡ true) × (length span ≡ 8) × (is_id span ≡ true)
IsNote (Again segment lane place) = (segment < 2 ^ 64) × (lane < 2 ^ 16) × (place < 2 ^ 64)
