-- What is found in bytes: records, one behind the other.
-- For the contracts of `record_in`, `record_at`, `records_read_back` and `turned_byte_is_found`.
use Rattle.std.proofs.Common.{◌≡◌, ℕ, zero, suc, ◌+◌, ◌^◌, ◌<◌, ◌≤◌, true, false, None, List, [], ◌∷◌, ◌++◌, length, take, drop, refl, sym, ◌∙◌, ap, arith, append_assoc, length-append, length-take, take-append-drop}
use Rattle.std.specs.List.{AllByRecursion, flat_map}
use Rattle.std.proofs.lemmas.Bool.{cond-true, cond-false}
use Rattle.std.proofs.lemmas.Slice.Eq.{bytes_eq-Decides}
use Rattle.std.proofs.lemmas.Nat.{from_le_bytes-to_le_bytes_4}
use Rattle.std.proofs.lemmas.List.{take_at, drop_at}
use Rattle.request_ledger.specs.Sums.{sums_of}
use Rattle.request_ledger.specs.Format.{Fits, head_bytes, record_of, told_len, told_payload, is_record, record_in, records_past, records_in}

-- passing over bytes is dropping them
pub past : (n : ℕ) (bytes : List ℕ) → records_past n bytes ≡ records_in (drop n bytes)
unfolding records_past
past zero bytes = refl
past (suc n) [] = refl
past (suc n) (b ∷ bytes) = past n bytes

-- a head tells the length in it
pub told-head : (payload rest : List ℕ) → Fits payload → told_len (head_bytes (length payload) (sums_of payload) ++ rest) ≡ length payload
unfolding told_len
told-head payload rest fits = from_le_bytes-to_le_bytes_4 (length payload) fits

pub length-record : (payload : List ℕ) → length (record_of payload) ≡ 12 + length payload
length-record payload = length-append (head_bytes (length payload) (sums_of payload)) payload

pub told-record : (payload rest : List ℕ) → Fits payload → told_len (record_of payload ++ rest) ≡ length payload
unfolding told_len
told-record payload rest fits = from_le_bytes-to_le_bytes_4 (length payload) fits

pub payload-record : (payload rest : List ℕ) → Fits payload → told_payload (record_of payload ++ rest) ≡ payload
unfolding told_payload
payload-record payload rest fits = take_at payload rest (told_len (record_of payload ++ rest)) (sym (told-record payload rest fits))

pub is_record-record : (payload rest : List ℕ) → Fits payload → is_record (record_of payload ++ rest) ≡ true
unfolding is_record
is_record-record payload rest fits =
    let told = told-record payload rest fits in
    let whole : take (12 + told_len (record_of payload ++ rest)) (record_of payload ++ rest) ≡ record_of payload =
    take_at (record_of payload) rest _ (omega (arith, told, length-record payload)) in
    (bytes_eq-Decides _ _).1 (whole ∙ ap record_of (sym (payload-record payload rest fits)))

-- what the bytes are where a whole record begins
pub record Begins (bytes : List ℕ) : Type 0 where
  pub tells : length (told_payload bytes) ≡ told_len bytes
  pub split : bytes ≡ record_of (told_payload bytes) ++ drop (12 + told_len bytes) bytes

pub begins : (bytes : List ℕ) → told_len bytes < 2 ^ 32 → is_record bytes ≡ true → Begins bytes
unfolding is_record told_payload
begins bytes low is =
    let front : take (12 + told_len bytes) bytes ≡ record_of (told_payload bytes) = (bytes_eq-Decides _ _).0 is in
    let short : length (told_payload bytes) ≤ told_len bytes = omega (arith, length-take (told_len bytes) (drop 12 bytes)) in
    let split : bytes ≡ record_of (told_payload bytes) ++ drop (12 + told_len bytes) bytes = sym (take-append-drop (12 + told_len bytes) bytes) ∙ ap (λ (l : List ℕ). l ++ drop (12 + told_len bytes) bytes) front in
    let fits : Fits (told_payload bytes) = omega arith in
    record { tells = sym (ap told_len split ∙ told-record (told_payload bytes) (drop (12 + told_len bytes) bytes) fits); split = split }

-- a record is as long as it tells
pub whole_length : (bytes : List ℕ) → told_len bytes < 2 ^ 32 → is_record bytes ≡ true → 12 + told_len bytes ≤ length bytes
whole_length bytes low is =
    let b = begins bytes low is in
    let size : length bytes ≡ length (record_of (told_payload bytes)) + length (drop (12 + told_len bytes) bytes) =
    ap length b.split ∙ length-append (record_of (told_payload bytes)) (drop (12 + told_len bytes) bytes) in
    omega (arith, size, b.tells, length-record (told_payload bytes))

in_head : (b : ℕ) (bytes : List ℕ) → is_record (b ∷ bytes) ≡ true → records_in (b ∷ bytes) ≡ told_payload (b ∷ bytes) ∷ records_in (drop (12 + told_len (b ∷ bytes)) (b ∷ bytes))
unfolding records_past
in_head b bytes is =
    let n = told_len (b ∷ bytes) in
    let one : 12 + n ≡ suc (11 + n) = omega arith in
    cond-true _ _ _ is
    ∙ ap (λ (rest : List (List ℕ)). told_payload (b ∷ bytes) ∷ rest) (past (11 + n) bytes ∙ ap (λ (k : ℕ). records_in (drop k (b ∷ bytes))) (sym one))

pub is_record-none : is_record [] ≡ false
unfolding is_record told_len told_payload sums_of
is_record-none = refl

pub none_in_none : record_in [] ≡ None
none_in_none = cond-false _ _ _ is_record-none

-- a whole record is found, and then those behind it
pub in_whole : (bytes : List ℕ) → is_record bytes ≡ true → records_in bytes ≡ told_payload bytes ∷ records_in (drop (12 + told_len bytes) bytes)
in_whole [] is = let odd : true ≡ false = sym is ∙ is_record-none in absurd (cc)
in_whole (b ∷ bytes) is = in_head b bytes is

-- where none begins, none is found
pub in_broken : (bytes : List ℕ) → is_record bytes ≡ false → records_in bytes ≡ []
unfolding records_past
in_broken [] broken = refl
in_broken (b ∷ bytes) broken = cond-false _ _ _ broken

pub in_record : (payload rest : List ℕ) → Fits payload → records_in (record_of payload ++ rest) ≡ payload ∷ records_in rest
in_record payload rest fits =
    let gone : drop (12 + told_len (record_of payload ++ rest)) (record_of payload ++ rest) ≡ rest =
    drop_at (record_of payload) rest _ (omega (arith, told-record payload rest fits, length-record payload)) in
    in_whole (record_of payload ++ rest) (is_record-record payload rest fits)
    ∙ ap (λ (l : List ℕ). l ∷ records_in (drop (12 + told_len (record_of payload ++ rest)) (record_of payload ++ rest))) (payload-record payload rest fits)
    ∙ ap (λ (l : List ℕ). payload ∷ records_in l) gone

pub in_records : (payloads : List (List ℕ)) (rest : List ℕ) → AllByRecursion Fits payloads → records_in (flat_map record_of payloads ++ rest) ≡ payloads ++ records_in rest
in_records [] rest fit = refl
in_records (payload ∷ payloads) rest fit =
    ap records_in (append_assoc (record_of payload) (flat_map record_of payloads) rest)
    ∙ in_record payload (flat_map record_of payloads ++ rest) fit.0
    ∙ ap (λ (l : List (List ℕ)). payload ∷ l) (in_records payloads rest fit.1)
