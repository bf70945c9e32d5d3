-- Rows by computation. The bytes come from a program of some lines that shares nothing with this crate.
-- No contract rests on it: it shows the definitions on worked cases.
use Rattle.std.proofs.Common.{◌≡◌, ℕ, true, false, Some, None, List, [], ◌∷◌, ◌++◌, take, set, map, refl}
use Rattle.otlp_encoding.specs.declared.encoding.Encoding.TheVariants.{Json, Protobuf}
use Rattle.request_ledger.specs.declared.notes.LedgerNote.TheVariants.{Counted, Handed, Again}
use Rattle.request_ledger.specs.declared.pending.LedgerSpan.{LedgerSpan}
use Rattle.request_ledger.specs.declared.pending.LedgerEnd.TheVariants as ends
use Rattle.request_ledger.specs.Sums.{after_bytes, sums_of}
use Rattle.request_ledger.specs.Format.{record_of, record_in, records_in, told_len, told_payload, is_record, records_past}
use Rattle.request_ledger.specs.Entries.{LedgerRequest, request_bytes, request_in, note_bytes, note_in}
use Rattle.request_ledger.specs.Pending.{ended_spans, is_over}
use Rattle.request_ledger.specs.Removal.{is_settled, may_go}

-- ---- sums

sums_of_text : sums_of (108 ∷ 101 ∷ 100 ∷ 103 ∷ 101 ∷ 114 ∷ []) ≡ record { first = 633; second = 2199 }
unfolding sums_of
sums_of_text = refl

sums_past_32_bits : after_bytes (record { first = 4294967276; second = 4294967289 }) (10 ∷ 0 ∷ 255 ∷ []) ≡ record { first = 248; second = 224 }
sums_past_32_bits = refl

-- ---- records

-- the records of "AB", of no byte and of 7, and then the beginning of one
sample : List ℕ
sample = 2 ∷ 0 ∷ 0 ∷ 0 ∷ 133 ∷ 0 ∷ 0 ∷ 0 ∷ 199 ∷ 0 ∷ 0 ∷ 0 ∷ 65 ∷ 66 ∷ 0 ∷ 0 ∷ 0 ∷ 0 ∷ 0 ∷ 0 ∷ 0 ∷ 0 ∷ 0 ∷ 0 ∷ 0 ∷ 0 ∷ 1 ∷ 0 ∷ 0 ∷ 0 ∷ 8 ∷ 0 ∷ 0 ∷ 0 ∷ 8 ∷ 0 ∷ 0 ∷ 0 ∷ 7 ∷ 3 ∷ 0 ∷ 0 ∷ 0 ∷ 110 ∷ 1 ∷ 0 ∷ 0 ∷ 218 ∷ 2 ∷ 0 ∷ 0 ∷ 120 ∷ 121 ∷ []

sample_put : record_of (65 ∷ 66 ∷ []) ++ record_of [] ++ record_of (7 ∷ []) ++ (3 ∷ 0 ∷ 0 ∷ 0 ∷ 110 ∷ 1 ∷ 0 ∷ 0 ∷ 218 ∷ 2 ∷ 0 ∷ 0 ∷ 120 ∷ 121 ∷ []) ≡ sample
unfolding sample sums_of
sample_put = refl

sample_found : records_in sample ≡ (65 ∷ 66 ∷ []) ∷ [] ∷ (7 ∷ []) ∷ []
unfolding sample sums_of told_len told_payload is_record records_past
sample_found = refl

-- cut within the second record, at the end of the first, and within it: in its payload, at the end of its head, and in that
cut_second : records_in (take 25 sample) ≡ (65 ∷ 66 ∷ []) ∷ []
unfolding sample sums_of told_len told_payload is_record records_past
cut_second = refl

cut_between : records_in (take 14 sample) ≡ (65 ∷ 66 ∷ []) ∷ []
unfolding sample sums_of told_len told_payload is_record records_past
cut_between = refl

cut_payload : record_in (take 13 sample) ≡ None
unfolding sample sums_of told_len told_payload is_record records_past
cut_payload = refl

cut_head : record_in (take 12 sample) ≡ None
unfolding sample sums_of told_len told_payload is_record records_past
cut_head = refl

cut_head_end : record_in (take 11 sample) ≡ None
unfolding sample sums_of told_len told_payload is_record records_past
cut_head_end = refl

cut_all : record_in (take 0 sample) ≡ None
unfolding sample sums_of told_len told_payload is_record records_past
cut_all = refl

-- a byte of the payload turned, the two bytes changed places, a sum turned, the length shorter and longer: nothing is found
turned : records_in (set sample 13 67) ≡ []
unfolding sample sums_of told_len told_payload is_record records_past
turned = refl

changed_places : records_in (set (set sample 12 66) 13 65) ≡ []
unfolding sample sums_of told_len told_payload is_record records_past
changed_places = refl

first_sum_turned : records_in (set sample 4 134) ≡ []
unfolding sample sums_of told_len told_payload is_record records_past
first_sum_turned = refl

second_sum_turned : records_in (set sample 8 200) ≡ []
unfolding sample sums_of told_len told_payload is_record records_past
second_sum_turned = refl

shorter : records_in (set sample 0 1) ≡ []
unfolding sample sums_of told_len told_payload is_record records_past
shorter = refl

longer : records_in (set sample 0 3) ≡ []
unfolding sample sums_of told_len told_payload is_record records_past
longer = refl

very_long : records_in (set sample 3 1) ≡ []
unfolding sample sums_of told_len told_payload is_record records_past
very_long = refl

-- ---- requests and notes

in_json : LedgerRequest
in_json = record { moment = 72623859790382856; connection = record { lane = 4370; ordinal = 2387509390608836392 }; encoding = Json; text = 123 ∷ 125 ∷ [] }

in_protobuf : LedgerRequest
in_protobuf = record { moment = 1764561191000; connection = record { lane = 3; ordinal = 77 }; encoding = Protobuf; text = 10 ∷ 0 ∷ [] }

json_put : request_bytes in_json ≡ 1 ∷ 8 ∷ 7 ∷ 6 ∷ 5 ∷ 4 ∷ 3 ∷ 2 ∷ 1 ∷ 18 ∷ 17 ∷ 40 ∷ 39 ∷ 38 ∷ 37 ∷ 36 ∷ 35 ∷ 34 ∷ 33 ∷ 123 ∷ 125 ∷ []
unfolding in_json
json_put = refl

json_read : request_in (1 ∷ 8 ∷ 7 ∷ 6 ∷ 5 ∷ 4 ∷ 3 ∷ 2 ∷ 1 ∷ 18 ∷ 17 ∷ 40 ∷ 39 ∷ 38 ∷ 37 ∷ 36 ∷ 35 ∷ 34 ∷ 33 ∷ 123 ∷ 125 ∷ []) ≡ Some in_json
unfolding in_json
json_read = refl

protobuf_put : request_bytes in_protobuf ≡ 2 ∷ 88 ∷ 0 ∷ 11 ∷ 216 ∷ 154 ∷ 1 ∷ 0 ∷ 0 ∷ 3 ∷ 0 ∷ 77 ∷ 0 ∷ 0 ∷ 0 ∷ 0 ∷ 0 ∷ 0 ∷ 0 ∷ 10 ∷ 0 ∷ []
unfolding in_protobuf
protobuf_put = refl

protobuf_read : request_in (2 ∷ 88 ∷ 0 ∷ 11 ∷ 216 ∷ 154 ∷ 1 ∷ 0 ∷ 0 ∷ 3 ∷ 0 ∷ 77 ∷ 0 ∷ 0 ∷ 0 ∷ 0 ∷ 0 ∷ 0 ∷ 0 ∷ 10 ∷ 0 ∷ []) ≡ Some in_protobuf
unfolding in_protobuf
protobuf_read = refl

-- no text; a byte short; kinds that are no request's
no_text : request_in (1 ∷ 1 ∷ 0 ∷ 0 ∷ 0 ∷ 0 ∷ 0 ∷ 0 ∷ 0 ∷ 2 ∷ 0 ∷ 3 ∷ 0 ∷ 0 ∷ 0 ∷ 0 ∷ 0 ∷ 0 ∷ 0 ∷ []) ≡ Some (record { moment = 1; connection = record { lane = 2; ordinal = 3 }; encoding = Json; text = [] })
no_text = refl

too_short : request_in (1 ∷ 1 ∷ 0 ∷ 0 ∷ 0 ∷ 0 ∷ 0 ∷ 0 ∷ 0 ∷ 2 ∷ 0 ∷ 3 ∷ 0 ∷ 0 ∷ 0 ∷ 0 ∷ 0 ∷ 0 ∷ []) ≡ None
too_short = refl

kind_of_none : map request_in ((0 ∷ 1 ∷ 0 ∷ 0 ∷ 0 ∷ 0 ∷ 0 ∷ 0 ∷ 0 ∷ 2 ∷ 0 ∷ 3 ∷ 0 ∷ 0 ∷ 0 ∷ 0 ∷ 0 ∷ 0 ∷ 0 ∷ []) ∷ (3 ∷ 1 ∷ 0 ∷ 0 ∷ 0 ∷ 0 ∷ 0 ∷ 0 ∷ 0 ∷ 2 ∷ 0 ∷ 3 ∷ 0 ∷ 0 ∷ 0 ∷ 0 ∷ 0 ∷ 0 ∷ 0 ∷ []) ∷ []) ≡ None ∷ None ∷ []
kind_of_none = refl

counted_put : note_bytes (Counted (91 ∷ 142 ∷ 255 ∷ 247 ∷ 152 ∷ 3 ∷ 129 ∷ 3 ∷ 210 ∷ 105 ∷ 182 ∷ 51 ∷ 129 ∷ 63 ∷ 198 ∷ 12 ∷ []) 1764561191001 258) ≡ 3 ∷ 91 ∷ 142 ∷ 255 ∷ 247 ∷ 152 ∷ 3 ∷ 129 ∷ 3 ∷ 210 ∷ 105 ∷ 182 ∷ 51 ∷ 129 ∷ 63 ∷ 198 ∷ 12 ∷ 89 ∷ 0 ∷ 11 ∷ 216 ∷ 154 ∷ 1 ∷ 0 ∷ 0 ∷ 2 ∷ 1 ∷ 0 ∷ 0 ∷ 0 ∷ 0 ∷ 0 ∷ 0 ∷ []
counted_put = refl

counted_read : note_in (3 ∷ 91 ∷ 142 ∷ 255 ∷ 247 ∷ 152 ∷ 3 ∷ 129 ∷ 3 ∷ 210 ∷ 105 ∷ 182 ∷ 51 ∷ 129 ∷ 63 ∷ 198 ∷ 12 ∷ 89 ∷ 0 ∷ 11 ∷ 216 ∷ 154 ∷ 1 ∷ 0 ∷ 0 ∷ 2 ∷ 1 ∷ 0 ∷ 0 ∷ 0 ∷ 0 ∷ 0 ∷ 0 ∷ []) ≡ Some (Counted (91 ∷ 142 ∷ 255 ∷ 247 ∷ 152 ∷ 3 ∷ 129 ∷ 3 ∷ 210 ∷ 105 ∷ 182 ∷ 51 ∷ 129 ∷ 63 ∷ 198 ∷ 12 ∷ []) 1764561191001 258)
counted_read = refl

handed_put : note_bytes (Handed (91 ∷ 142 ∷ 255 ∷ 247 ∷ 152 ∷ 3 ∷ 129 ∷ 3 ∷ 210 ∷ 105 ∷ 182 ∷ 51 ∷ 129 ∷ 63 ∷ 198 ∷ 12 ∷ []) (238 ∷ 225 ∷ 155 ∷ 126 ∷ 195 ∷ 193 ∷ 177 ∷ 116 ∷ [])) ≡ 4 ∷ 91 ∷ 142 ∷ 255 ∷ 247 ∷ 152 ∷ 3 ∷ 129 ∷ 3 ∷ 210 ∷ 105 ∷ 182 ∷ 51 ∷ 129 ∷ 63 ∷ 198 ∷ 12 ∷ 238 ∷ 225 ∷ 155 ∷ 126 ∷ 195 ∷ 193 ∷ 177 ∷ 116 ∷ []
handed_put = refl

handed_read : note_in (4 ∷ 91 ∷ 142 ∷ 255 ∷ 247 ∷ 152 ∷ 3 ∷ 129 ∷ 3 ∷ 210 ∷ 105 ∷ 182 ∷ 51 ∷ 129 ∷ 63 ∷ 198 ∷ 12 ∷ 238 ∷ 225 ∷ 155 ∷ 126 ∷ 195 ∷ 193 ∷ 177 ∷ 116 ∷ []) ≡ Some (Handed (91 ∷ 142 ∷ 255 ∷ 247 ∷ 152 ∷ 3 ∷ 129 ∷ 3 ∷ 210 ∷ 105 ∷ 182 ∷ 51 ∷ 129 ∷ 63 ∷ 198 ∷ 12 ∷ []) (238 ∷ 225 ∷ 155 ∷ 126 ∷ 195 ∷ 193 ∷ 177 ∷ 116 ∷ []))
handed_read = refl

again_put : note_bytes (Again 3544952156018063160 16706 5859837686836516696) ≡ 5 ∷ 56 ∷ 55 ∷ 54 ∷ 53 ∷ 52 ∷ 51 ∷ 50 ∷ 49 ∷ 66 ∷ 65 ∷ 88 ∷ 87 ∷ 86 ∷ 85 ∷ 84 ∷ 83 ∷ 82 ∷ 81 ∷ []
again_put = refl

again_read : note_in (5 ∷ 56 ∷ 55 ∷ 54 ∷ 53 ∷ 52 ∷ 51 ∷ 50 ∷ 49 ∷ 66 ∷ 65 ∷ 88 ∷ 87 ∷ 86 ∷ 85 ∷ 84 ∷ 83 ∷ 82 ∷ 81 ∷ []) ≡ Some (Again 3544952156018063160 16706 5859837686836516696)
again_read = refl

-- a byte more, and one short; a kind that is no note's; an id of zeros
more : map note_in ((3 ∷ 91 ∷ 142 ∷ 255 ∷ 247 ∷ 152 ∷ 3 ∷ 129 ∷ 3 ∷ 210 ∷ 105 ∷ 182 ∷ 51 ∷ 129 ∷ 63 ∷ 198 ∷ 12 ∷ 89 ∷ 0 ∷ 11 ∷ 216 ∷ 154 ∷ 1 ∷ 0 ∷ 0 ∷ 2 ∷ 1 ∷ 0 ∷ 0 ∷ 0 ∷ 0 ∷ 0 ∷ 0 ∷ 48 ∷ []) ∷ (4 ∷ 91 ∷ 142 ∷ 255 ∷ 247 ∷ 152 ∷ 3 ∷ 129 ∷ 3 ∷ 210 ∷ 105 ∷ 182 ∷ 51 ∷ 129 ∷ 63 ∷ 198 ∷ 12 ∷ 238 ∷ 225 ∷ 155 ∷ 126 ∷ 195 ∷ 193 ∷ 177 ∷ 116 ∷ 48 ∷ []) ∷ (5 ∷ 56 ∷ 55 ∷ 54 ∷ 53 ∷ 52 ∷ 51 ∷ 50 ∷ 49 ∷ 66 ∷ 65 ∷ 88 ∷ 87 ∷ 86 ∷ 85 ∷ 84 ∷ 83 ∷ 82 ∷ 81 ∷ 48 ∷ []) ∷ []) ≡ None ∷ None ∷ None ∷ []
more = refl

short : map note_in ((3 ∷ 91 ∷ 142 ∷ 255 ∷ 247 ∷ 152 ∷ 3 ∷ 129 ∷ 3 ∷ 210 ∷ 105 ∷ 182 ∷ 51 ∷ 129 ∷ 63 ∷ 198 ∷ 12 ∷ 89 ∷ 0 ∷ 11 ∷ 216 ∷ 154 ∷ 1 ∷ 0 ∷ 0 ∷ 2 ∷ 1 ∷ 0 ∷ 0 ∷ 0 ∷ 0 ∷ 0 ∷ []) ∷ (4 ∷ 91 ∷ 142 ∷ 255 ∷ 247 ∷ 152 ∷ 3 ∷ 129 ∷ 3 ∷ 210 ∷ 105 ∷ 182 ∷ 51 ∷ 129 ∷ 63 ∷ 198 ∷ 12 ∷ 238 ∷ 225 ∷ 155 ∷ 126 ∷ 195 ∷ 193 ∷ 177 ∷ []) ∷ (5 ∷ 56 ∷ 55 ∷ 54 ∷ 53 ∷ 52 ∷ 51 ∷ 50 ∷ 49 ∷ 66 ∷ 65 ∷ 88 ∷ 87 ∷ 86 ∷ 85 ∷ 84 ∷ 83 ∷ 82 ∷ []) ∷ []) ≡ None ∷ None ∷ None ∷ []
short = refl

other_kinds : map note_in ((4 ∷ 91 ∷ 142 ∷ 255 ∷ 247 ∷ 152 ∷ 3 ∷ 129 ∷ 3 ∷ 210 ∷ 105 ∷ 182 ∷ 51 ∷ 129 ∷ 63 ∷ 198 ∷ 12 ∷ 89 ∷ 0 ∷ 11 ∷ 216 ∷ 154 ∷ 1 ∷ 0 ∷ 0 ∷ 2 ∷ 1 ∷ 0 ∷ 0 ∷ 0 ∷ 0 ∷ 0 ∷ 0 ∷ []) ∷ (5 ∷ 91 ∷ 142 ∷ 255 ∷ 247 ∷ 152 ∷ 3 ∷ 129 ∷ 3 ∷ 210 ∷ 105 ∷ 182 ∷ 51 ∷ 129 ∷ 63 ∷ 198 ∷ 12 ∷ 238 ∷ 225 ∷ 155 ∷ 126 ∷ 195 ∷ 193 ∷ 177 ∷ 116 ∷ []) ∷ (1 ∷ 56 ∷ 55 ∷ 54 ∷ 53 ∷ 52 ∷ 51 ∷ 50 ∷ 49 ∷ 66 ∷ 65 ∷ 88 ∷ 87 ∷ 86 ∷ 85 ∷ 84 ∷ 83 ∷ 82 ∷ 81 ∷ []) ∷ []) ≡ None ∷ None ∷ None ∷ []
other_kinds = refl

zero_id : map note_in ((3 ∷ 0 ∷ 0 ∷ 0 ∷ 0 ∷ 0 ∷ 0 ∷ 0 ∷ 0 ∷ 0 ∷ 0 ∷ 0 ∷ 0 ∷ 0 ∷ 0 ∷ 0 ∷ 0 ∷ 89 ∷ 0 ∷ 11 ∷ 216 ∷ 154 ∷ 1 ∷ 0 ∷ 0 ∷ 2 ∷ 1 ∷ 0 ∷ 0 ∷ 0 ∷ 0 ∷ 0 ∷ 0 ∷ []) ∷ (4 ∷ 91 ∷ 142 ∷ 255 ∷ 247 ∷ 152 ∷ 3 ∷ 129 ∷ 3 ∷ 210 ∷ 105 ∷ 182 ∷ 51 ∷ 129 ∷ 63 ∷ 198 ∷ 12 ∷ 0 ∷ 0 ∷ 0 ∷ 0 ∷ 0 ∷ 0 ∷ 0 ∷ 0 ∷ []) ∷ []) ≡ None ∷ None ∷ []
zero_id = refl

-- ---- which spans have ended

-- in the order in which they came; three have one id, and the moment of one is before that of the one before it
spans : List LedgerSpan
spans = record { span = 65 ∷ 65 ∷ 65 ∷ 65 ∷ 65 ∷ 65 ∷ 65 ∷ 65 ∷ []; moment = 5 } ∷ record { span = 66 ∷ 66 ∷ 66 ∷ 66 ∷ 66 ∷ 66 ∷ 66 ∷ 66 ∷ []; moment = 9 } ∷ record { span = 65 ∷ 65 ∷ 65 ∷ 65 ∷ 65 ∷ 65 ∷ 65 ∷ 65 ∷ []; moment = 7 } ∷ record { span = 67 ∷ 67 ∷ 67 ∷ 67 ∷ 67 ∷ 67 ∷ 67 ∷ 67 ∷ []; moment = 6 } ∷ record { span = 65 ∷ 65 ∷ 65 ∷ 65 ∷ 65 ∷ 65 ∷ 65 ∷ 65 ∷ []; moment = 8 } ∷ []

none_ends : ended_spans spans ([]) ≡ false ∷ false ∷ false ∷ false ∷ false ∷ []
unfolding spans
none_ends = refl

-- a handed span ends the first with its id, another one the next, and one too many ends none
handed_once : ended_spans spans (ends.Handed (65 ∷ 65 ∷ 65 ∷ 65 ∷ 65 ∷ 65 ∷ 65 ∷ 65 ∷ []) ∷ []) ≡ true ∷ false ∷ false ∷ false ∷ false ∷ []
unfolding spans
handed_once = refl

handed_twice : ended_spans spans (ends.Handed (65 ∷ 65 ∷ 65 ∷ 65 ∷ 65 ∷ 65 ∷ 65 ∷ 65 ∷ []) ∷ ends.Handed (65 ∷ 65 ∷ 65 ∷ 65 ∷ 65 ∷ 65 ∷ 65 ∷ 65 ∷ []) ∷ []) ≡ true ∷ false ∷ true ∷ false ∷ false ∷ []
unfolding spans
handed_twice = refl

handed_too_often : ended_spans spans (ends.Handed (65 ∷ 65 ∷ 65 ∷ 65 ∷ 65 ∷ 65 ∷ 65 ∷ 65 ∷ []) ∷ ends.Handed (65 ∷ 65 ∷ 65 ∷ 65 ∷ 65 ∷ 65 ∷ 65 ∷ 65 ∷ []) ∷ ends.Handed (65 ∷ 65 ∷ 65 ∷ 65 ∷ 65 ∷ 65 ∷ 65 ∷ 65 ∷ []) ∷ ends.Handed (65 ∷ 65 ∷ 65 ∷ 65 ∷ 65 ∷ 65 ∷ 65 ∷ 65 ∷ []) ∷ ends.Handed (66 ∷ 66 ∷ 66 ∷ 66 ∷ 66 ∷ 66 ∷ 66 ∷ 66 ∷ []) ∷ []) ≡ true ∷ true ∷ true ∷ false ∷ true ∷ []
unfolding spans
handed_too_often = refl

handed_unknown : ended_spans spans (ends.Handed (68 ∷ 68 ∷ 68 ∷ 68 ∷ 68 ∷ 68 ∷ 68 ∷ 68 ∷ []) ∷ []) ≡ false ∷ false ∷ false ∷ false ∷ false ∷ []
unfolding spans
handed_unknown = refl

-- counted ones end the oldest that came up to the moment, itself among them, or none where there aren't so many
counted_two : ended_spans spans (ends.Counted 7 2 ∷ []) ≡ true ∷ false ∷ true ∷ false ∷ false ∷ []
unfolding spans
counted_two = refl

counted_at_the_moment : ended_spans spans (ends.Counted 5 1 ∷ []) ≡ true ∷ false ∷ false ∷ false ∷ false ∷ []
unfolding spans
counted_at_the_moment = refl

counted_before_it : ended_spans spans (ends.Counted 4 1 ∷ []) ≡ false ∷ false ∷ false ∷ false ∷ false ∷ []
unfolding spans
counted_before_it = refl

counted_all : ended_spans spans (ends.Counted 9 5 ∷ []) ≡ true ∷ true ∷ true ∷ true ∷ true ∷ []
unfolding spans
counted_all = refl

counted_too_many : ended_spans spans (ends.Counted 7 4 ∷ []) ≡ false ∷ false ∷ false ∷ false ∷ false ∷ []
unfolding spans
counted_too_many = refl

counted_none : ended_spans spans (ends.Counted 9 0 ∷ []) ≡ false ∷ false ∷ false ∷ false ∷ false ∷ []
unfolding spans
counted_none = refl

-- one after the other
both : ended_spans spans (ends.Handed (65 ∷ 65 ∷ 65 ∷ 65 ∷ 65 ∷ 65 ∷ 65 ∷ 65 ∷ []) ∷ ends.Counted 8 2 ∷ ends.Handed (65 ∷ 65 ∷ 65 ∷ 65 ∷ 65 ∷ 65 ∷ 65 ∷ 65 ∷ []) ∷ ends.Counted 8 1 ∷ []) ≡ true ∷ false ∷ true ∷ true ∷ true ∷ []
unfolding spans
both = refl

too_many_then_fewer : ended_spans spans (ends.Handed (67 ∷ 67 ∷ 67 ∷ 67 ∷ 67 ∷ 67 ∷ 67 ∷ 67 ∷ []) ∷ ends.Counted 7 3 ∷ ends.Counted 7 2 ∷ []) ≡ true ∷ false ∷ true ∷ true ∷ false ∷ []
unfolding spans
too_many_then_fewer = refl

-- a trace is over with its last end, whatever these are of
over_by_both : is_over spans (ends.Counted 9 4 ∷ ends.Handed (65 ∷ 65 ∷ 65 ∷ 65 ∷ 65 ∷ 65 ∷ 65 ∷ 65 ∷ []) ∷ []) ≡ true
unfolding spans
over_by_both = refl

one_is_left : is_over spans (ends.Counted 9 4 ∷ ends.Handed (66 ∷ 66 ∷ 66 ∷ 66 ∷ 66 ∷ 66 ∷ 66 ∷ 66 ∷ []) ∷ []) ≡ false
unfolding spans
one_is_left = refl

-- ---- when a segment may go

all_past : is_settled 100 20 (record { told = 121; oldest = None } ∷ record { told = 130; oldest = Some 121 } ∷ record { told = 125; oldest = Some 122 } ∷ []) ≡ true
all_past = refl

told_at_it : is_settled 100 20 (record { told = 120; oldest = None } ∷ record { told = 130; oldest = Some 121 } ∷ []) ≡ false
told_at_it = refl

oldest_at_it : is_settled 100 20 (record { told = 130; oldest = Some 121 } ∷ record { told = 130; oldest = Some 120 } ∷ []) ≡ false
oldest_at_it = refl

oldest_since_then : is_settled 100 20 (record { told = 500; oldest = Some 90 } ∷ []) ≡ false
oldest_since_then = refl

no_shard : is_settled 100 20 ([]) ≡ true
no_shard = refl

past_64_bits : is_settled 18446744073709551615 1 (record { told = 18446744073709551615; oldest = None } ∷ []) ≡ false
past_64_bits = refl

never_settled : may_go None None ≡ false
never_settled = refl

nothing_on_its_way : may_go (Some 4) None ≡ true
nothing_on_its_way = refl

released_later : may_go (Some 4) (Some 5) ≡ true
released_later = refl

released_meanwhile : may_go (Some 4) (Some 4) ≡ false
released_meanwhile = refl
