-- The bytes of a ledger file, and what a reader finds in any bytes.
use Rattle.std.specs.Prelude.{ℕ, zero, suc, ◌+◌, ◌≤◌, nat_le, Bool, ◌&&◌, if◌then◌else◌, List, [], ◌∷◌, ◌++◌, length, take, drop, bytes_eq}
use Rattle.std.specs.Int.{w32, to_le_bytes, from_le_bytes}
use Rattle.ledger_file.specs.Checksum.{after_bytes, checksum}

-- the longest record, in bytes: a reader holds no more at a time
abbrev pub longest : ℕ
longest = 16777216

abbrev pub Fits : List ℕ → Type 0
Fits item = length item ≤ longest

-- A record in the file: its gate (1 is open), its length, its checksum behind the header's, and its bytes.
abbrev pub frame_head : ℕ → List ℕ → List ℕ
frame_head seed item = 1 ∷ to_le_bytes w32 (length item) ++ to_le_bytes w32 (checksum seed item)

abbrev pub frame : ℕ → List ℕ → List ℕ
frame seed item = frame_head seed item ++ item

abbrev pub frames : ℕ → List (List ℕ) → List ℕ
frames seed [] = []
frames seed (item ∷ items) = frame seed item ++ frames seed items

-- the length that the bytes claim for a record that begins there, and the record
unfoldable pub claimed : List ℕ → ℕ
claimed bytes = from_le_bytes w32 (drop 1 bytes)

unfoldable pub payload : List ℕ → List ℕ
payload bytes = take (claimed bytes) (drop 9 bytes)

-- a whole record begins there: the bytes are the frame of what they claim
unfoldable pub is_whole : ℕ → List ℕ → Bool
is_whole seed bytes = nat_le (claimed bytes) longest && bytes_eq (take (9 + claimed bytes) bytes) (frame seed (payload bytes))

-- passing over n bytes: the whole records from there on, up to the first that isn't
unfoldable pub records_past : ℕ → ℕ → List ℕ → List (List ℕ)
records_past seed n [] = []
records_past seed (suc n) (byte ∷ bytes) = records_past seed n bytes
records_past seed zero (byte ∷ bytes) =
    if is_whole seed (byte ∷ bytes)
    then payload (byte ∷ bytes) ∷ records_past seed (8 + claimed (byte ∷ bytes)) bytes
    else []

abbrev pub records_in : ℕ → List ℕ → List (List ℕ)
records_in seed bytes = records_past seed 0 bytes

-- "tscledg" and the version, 1
abbrev pub magic : List ℕ
magic = 116 ∷ 115 ∷ 99 ∷ 108 ∷ 101 ∷ 100 ∷ 103 ∷ 1 ∷ []

-- the header: magic, and the caller's parameters with their length
abbrev pub header : List ℕ → List ℕ
header parameters = magic ++ to_le_bytes w32 (length parameters) ++ parameters

-- the register behind a header, from which each record's checksum starts: another file's record is no record here
abbrev pub seed_of : List ℕ → ℕ
seed_of parameters = after_bytes 0xFFFFFFFF (header parameters)

unfoldable pub parameters_of : List ℕ → List ℕ
parameters_of file = take (from_le_bytes w32 (drop 8 file)) (drop 12 file)

unfoldable pub is_ledger : List ℕ → Bool
is_ledger file = bytes_eq (take (length (header (parameters_of file))) file) (header (parameters_of file))

unfoldable pub records_of : List ℕ → List (List ℕ)
records_of file =
    if is_ledger file
    then records_in (seed_of (parameters_of file)) (drop (length (header (parameters_of file))) file)
    else []

-- a file of these parameters and records, up to where the next gate stands
abbrev pub front : List ℕ → List (List ℕ) → List ℕ
front parameters items = header parameters ++ frames (seed_of parameters) items
