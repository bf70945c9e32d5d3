-- Messages as they are written to bytes (Protocol Buffers, "Encoding"): one field after another, each number in as few
-- bytes as hold it.
use Rattle.std.specs.Prelude.{◌≡◌, ℕ, zero, suc, ◌+◌, ◌*◌, ◌/◌, ◌%◌, List, [], ◌∷◌, ◌++◌, length, nat_lt, if◌then◌else◌}
use Rattle.std.specs.Int.{w32, w64, to_le_bytes}
use Rattle.protobuf_wire.specs.Wire.{Value, Field, varint, fixed64, bytes, fixed32}

-- a number in at most n bytes, seven bits each, the lowest first; only its last byte is below 128
unfoldable pub written : ℕ → ℕ → List ℕ
written zero k = []
written (suc n) k = if nat_lt k 128 then k ∷ [] else (k % 128 + 128) ∷ written n (k / 128)

-- a number
abbrev pub number_bytes : ℕ → List ℕ
number_bytes = written 10

-- bytes behind their count
abbrev pub counted_bytes : List ℕ → List ℕ
counted_bytes s = number_bytes (length s) ++ s

-- the wire type of a value
abbrev pub wire_type : Value → ℕ
wire_type (varint k) = 0
wire_type (fixed64 k) = 1
wire_type (bytes s) = 2
wire_type (fixed32 k) = 5

-- a value
abbrev pub value_bytes : Value → List ℕ
value_bytes (varint k) = number_bytes k
value_bytes (fixed64 k) = to_le_bytes w64 k
value_bytes (bytes s) = counted_bytes s
value_bytes (fixed32 k) = to_le_bytes w32 k

-- the tag of a field of this number and wire type
abbrev pub tag_bytes : ℕ → ℕ → List ℕ
tag_bytes n kind = number_bytes (8 * n + kind)

-- a field: its tag, and its value
abbrev pub field_bytes : Field → List ℕ
field_bytes f = tag_bytes f.number (wire_type f.value) ++ value_bytes f.value

-- a message: its fields in this order
unfoldable pub message_bytes : List Field → List ℕ
message_bytes [] = []
message_bytes (f ∷ fs) = field_bytes f ++ message_bytes fs

-- these fields were written behind what was there
abbrev pub Adds : (old new : List ℕ) → List Field → Type 0
Adds old new fs = new ≡ old ++ message_bytes fs

-- a message was begun in a field of this number: a byte is held free at `at`, and what comes behind it is the message
abbrev pub IsBegun : (old new : List ℕ) → (number at : ℕ) → Type 0
IsBegun old new number at = (new ≡ (old ++ tag_bytes number 2) ++ 0 ∷ []) × (at ≡ length (old ++ tag_bytes number 2))
