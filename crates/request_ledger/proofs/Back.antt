-- What was put is read as that.
-- For `back` of `request_in` and `note_in`.
use Rattle.std.proofs.Common.{◌≡◌, ℕ, ◌<◌, ◌≤◌, ◌^◌, Bool, true, false, Some, List, ◌∷◌, ◌++◌, length, take, drop, refl, sym, ◌∙◌, ap, arith, append_assoc, length-append}
use Rattle.std.specs.Prelude.{Option, option_map, option_and_then, nat_lt, nat_eq, ◌&&◌}
use Rattle.std.specs.Int.{w16, w64, to_le_bytes, from_le_bytes}
use Rattle.std.proofs.lemmas.Bool.{cond-true, cond-false, and_from}
use Rattle.std.proofs.lemmas.Bool.Decides.{Decides-eqb, Decides-ltb}
use Rattle.std.proofs.lemmas.Nat.{from_le_bytes-to_le_bytes_2, from_le_bytes-to_le_bytes_8}
use Rattle.std.proofs.lemmas.List.{take_at, drop_at}
use Rattle.span_ids.specs.Id.{is_id, id_from}
use Rattle.otlp_encoding.specs.declared.encoding.Encoding.{Encoding}
use Rattle.otlp_encoding.specs.declared.encoding.Encoding.TheVariants.{Json, Protobuf}
use Rattle.request_ledger.specs.declared.notes.LedgerNote.{LedgerNote}
use Rattle.request_ledger.specs.declared.notes.LedgerNote.TheVariants.{Counted, Handed, Again}
use Rattle.request_ledger.specs.Entries.{LedgerRequest, request_of, request_bytes, request_in, told_request, encoding_of, kind_of, IsRequest, note_bytes, note_in, told_trace, IsNote}
use Rattle.request_ledger.proofs.Heads.{false_unless}

told_back : (r : LedgerRequest) → IsRequest r → told_request (request_bytes r) r.encoding ≡ r
told_back r is =
    let moment : from_le_bytes w64 (to_le_bytes w64 r.moment) ≡ r.moment = from_le_bytes-to_le_bytes_8 r.moment is.moment in
    let lane : from_le_bytes w16 (to_le_bytes w16 r.connection.lane) ≡ r.connection.lane = from_le_bytes-to_le_bytes_2 r.connection.lane is.lane in
    let ordinal : from_le_bytes w64 (to_le_bytes w64 r.connection.ordinal) ≡ r.connection.ordinal = from_le_bytes-to_le_bytes_8 r.connection.ordinal is.ordinal in
    λ i. request_of (moment i) (record { lane = lane i; ordinal = ordinal i }) r.encoding r.text

known : (e : Encoding) → encoding_of (kind_of e) ≡ Some e
known Json = refl
known Protobuf = refl

not_below : (m n : ℕ) → n ≤ m → nat_lt m n ≡ false
not_below m n within = false_unless (nat_lt m n) (λ less. let h : m < n = (Decides-ltb m n).0 less in absurd (omega arith))

long_enough : (r : LedgerRequest) → nat_lt (length (request_bytes r)) 19 ≡ false
long_enough r = not_below (length (request_bytes r)) 19 (omega (arith, length-append (take 19 (request_bytes r)) r.text))

pub request_back : (r : LedgerRequest) → IsRequest r → request_in (request_bytes r) ≡ Some r
request_back r is =
    cond-false _ _ _ (long_enough r) ∙ ap (λ e. option_map (told_request (request_bytes r)) e) (known r.encoding) ∙ ap Some (told_back r is)

again_back : (segment lane place : ℕ) → segment < 2 ^ 64 → lane < 2 ^ 16 → place < 2 ^ 64 → note_in (note_bytes (Again segment lane place)) ≡ Some (Again segment lane place)
again_back segment lane place ls ll lp =
    let s : from_le_bytes w64 (to_le_bytes w64 segment) ≡ segment = from_le_bytes-to_le_bytes_8 segment ls in
    let l : from_le_bytes w16 (to_le_bytes w16 lane) ≡ lane = from_le_bytes-to_le_bytes_2 lane ll in
    let p : from_le_bytes w64 (to_le_bytes w64 place) ≡ place = from_le_bytes-to_le_bytes_8 place lp in
    λ i. Some (Again (s i) (l i) (p i))

and_no : (b : Bool) → (b && false) ≡ false
and_no true = refl
and_no false = refl

-- an id is told by its bytes
id_told : (n : ℕ) (id : List ℕ) → length id ≡ n → is_id id ≡ true → id_from n id ≡ Some id
id_told n id len is = cond-true _ _ _ (and_from _ _ ((Decides-eqb (length id) n).1 len) is)

trace_told : (kind : ℕ) (trace rest : List ℕ) → length trace ≡ 16 → is_id trace ≡ true → told_trace (kind ∷ (trace ++ rest)) ≡ Some trace
trace_told kind trace rest len is = ap (id_from 16) (take_at trace rest 16 len) ∙ id_told 16 trace len is

counted_back : (trace : List ℕ) (moment spans : ℕ) → length trace ≡ 16 → is_id trace ≡ true → moment < 2 ^ 64 → spans < 2 ^ 64 → note_in (note_bytes (Counted trace moment spans)) ≡ Some (Counted trace moment spans)
counted_back trace moment spans len is lm ls =
    let m_bytes = to_le_bytes w64 moment in
    let s_bytes = to_le_bytes w64 spans in
    let payload = 3 ∷ (trace ++ (m_bytes ++ s_bytes)) in
    let size : length payload ≡ 33 = omega (arith, len, length-append trace (m_bytes ++ s_bytes)) in
    let m : from_le_bytes w64 (drop 17 payload) ≡ moment = ap (from_le_bytes w64) (drop_at trace (m_bytes ++ s_bytes) 16 len) ∙ from_le_bytes-to_le_bytes_8 moment lm in
    let s : from_le_bytes w64 (drop 25 payload) ≡ spans =
    ap (λ (l : List ℕ). from_le_bytes w64 (drop 24 l)) (sym (append_assoc trace m_bytes s_bytes))
    ∙ ap (from_le_bytes w64) (drop_at (trace ++ m_bytes) s_bytes 24 (omega (arith, len, length-append trace m_bytes))) ∙ from_le_bytes-to_le_bytes_8 spans ls in
    ap (λ (l : List ℕ). note_in (3 ∷ l)) (append_assoc trace m_bytes s_bytes)
    ∙ cond-true _ _ _ (and_from _ _ ((Decides-eqb (length payload) 33).1 size) refl)
    ∙ ap (λ (t : Option (List ℕ)). option_map (λ (trace : List ℕ). Counted trace (from_le_bytes w64 (drop 17 payload)) (from_le_bytes w64 (drop 25 payload))) t) (trace_told 3 trace (m_bytes ++ s_bytes) len is)
    ∙ (λ i. Some (Counted trace (m i) (s i)))

handed_back : (trace span : List ℕ) → length trace ≡ 16 → is_id trace ≡ true → length span ≡ 8 → is_id span ≡ true → note_in (note_bytes (Handed trace span)) ≡ Some (Handed trace span)
handed_back trace span len is len_span is_span =
    let payload = 4 ∷ (trace ++ span) in
    let size : length payload ≡ 25 = omega (arith, len, len_span, length-append trace span) in
    let told : id_from 8 (drop 17 payload) ≡ Some span = ap (id_from 8) (drop_at trace span 16 len) ∙ id_told 8 span len_span is_span in
    let not_counted : (nat_eq (length payload) 33 && nat_eq 4 3) ≡ false = and_no (nat_eq (length payload) 33) in
    cond-false _ _ _ not_counted
    ∙ cond-true _ _ _ (and_from _ _ ((Decides-eqb (length payload) 25).1 size) refl)
    ∙ ap (λ (t : Option (List ℕ)). option_and_then (λ (trace : List ℕ). option_map (λ (span : List ℕ). Handed trace span) (id_from 8 (drop 17 payload))) t) (trace_told 4 trace span len is)
    ∙ ap (λ (s : Option (List ℕ)). option_map (λ (span : List ℕ). Handed trace span) s) told

pub note_back : (n : LedgerNote) → IsNote n → note_in (note_bytes n) ≡ Some n
note_back (Counted trace moment spans) is = counted_back trace moment spans is.0 is.1 is.2 is.3
note_back (Handed trace span) is = handed_back trace span is.0 is.1 is.2 is.3
note_back (Again segment lane place) is = again_back segment lane place is.0 is.1 is.2
