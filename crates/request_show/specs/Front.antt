-- The bytes behind a field at the front of some bytes, by what it holds (Protocol Buffers, "Encoding"). Of bytes that
-- aren't a field there this says nothing that counts.
use Rattle.std.specs.Prelude.{ℕ, List, [], ◌∷◌, length, drop, nat_lt, if◌then◌else◌}
use Rattle.protobuf_wire.specs.Wire.{Value, varint, fixed64, bytes, fixed32}

-- behind a number: its last byte is the first below 128
abbrev pub behind_number : List ℕ → List ℕ
behind_number [] = []
behind_number (b ∷ s) = if nat_lt b 128 then s else behind_number s

-- behind a value
abbrev pub behind_value : List ℕ → Value → List ℕ
behind_value s (varint n) = behind_number s
behind_value s (fixed64 n) = drop 8 s
behind_value s (fixed32 n) = drop 4 s
behind_value s (bytes held) = drop (length held) (behind_number s)

-- behind a tag and a value
abbrev pub behind_field : List ℕ → Value → List ℕ
behind_field s held = behind_value (behind_number s) held
