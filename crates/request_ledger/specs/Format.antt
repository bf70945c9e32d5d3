-- The bytes of a record, and the records that are found in any bytes.
use Rattle.std.specs.Prelude.{◌⊎◌, ℕ, zero, suc, ◌+◌, ◌^◌, ◌<◌, ◌≤◌, Bool, if◌then◌else◌, Option, Some, None, List, [], ◌∷◌, ◌++◌, length, take, drop, bytes_eq}
use Rattle.std.specs.Int.{w32, to_le_bytes, from_le_bytes}
use Rattle.request_ledger.specs.declared.sums.Sums.{Sums}
use Rattle.request_ledger.specs.Sums.{sums_of}

-- a record's length of four bytes tells how long such a payload is
abbrev pub Fits : List ℕ → Type 0
Fits payload = length payload < 2 ^ 32

-- the head: the payload's length and its two sums, four bytes each
abbrev pub head_bytes : (len : ℕ) → Sums → List ℕ
head_bytes len sums = to_le_bytes w32 len ++ (to_le_bytes w32 sums.first ++ to_le_bytes w32 sums.second)

-- a record: its head, and its payload
abbrev pub record_of : List ℕ → List ℕ
record_of payload = head_bytes (length payload) (sums_of payload) ++ payload

-- the length that the bytes tell, and the payload that they would have
unfoldable pub told_len : List ℕ → ℕ
told_len bytes = from_le_bytes w32 bytes

unfoldable pub told_payload : List ℕ → List ℕ
told_payload bytes = take (told_len bytes) (drop 12 bytes)

-- a whole record begins there: the bytes begin as the record of what they tell
unfoldable pub is_record : List ℕ → Bool
is_record bytes = bytes_eq (take (12 + told_len bytes) bytes) (record_of (told_payload bytes))

-- its payload
abbrev pub record_in : List ℕ → Option (List ℕ)
record_in bytes = if is_record bytes then Some (told_payload bytes) else None

-- passing over n bytes: the payloads of the records from there on, one behind the other, up to the first that isn't one
unfoldable pub records_past : ℕ → List ℕ → List (List ℕ)
records_past n [] = []
records_past (suc n) (byte ∷ bytes) = records_past n bytes
records_past zero (byte ∷ bytes) =
    if is_record (byte ∷ bytes)
    then told_payload (byte ∷ bytes) ∷ records_past (11 + told_len (byte ∷ bytes)) bytes
    else []

abbrev pub records_in : List ℕ → List (List ℕ)
records_in bytes = records_past 0 bytes

-- why a record is refused: its payload is too long, or memory was needed for it
abbrev pub IsRefused : (room len : ℕ) → (payload : List ℕ) → Type 0
IsRefused room len payload = (2 ^ 32 ≤ length payload) ⊎ (room < len + length (record_of payload))
