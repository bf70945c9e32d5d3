-- Fields of proto3 by their kinds: a scalar that has its default is left out.
use Rattle.std.specs.Prelude.{ℕ, List, [], ◌∷◌, map, ◌==◌, if◌then◌else◌}
use Rattle.protobuf_wire.specs.Wire.{Value, Field, varint, fixed64, bytes, fixed32}
use Rattle.protobuf_writer.specs.Writing.{message_bytes}

abbrev pub field : ℕ → Value → Field
field n v = record { number = n; value = v }

-- a `string`, or `bytes`
abbrev pub text_field : ℕ → List ℕ → List Field
text_field n [] = []
text_field n (c ∷ s) = field n (bytes (c ∷ s)) ∷ []

-- a number whose bits are k: of a `uint32`, an `int32` or an enumeration
abbrev pub number_field : ℕ → ℕ → List Field
number_field n k = if k == 0 then [] else field n (varint k) ∷ []

-- a `fixed64`, and a `fixed32`
abbrev pub fixed64_field : ℕ → ℕ → List Field
fixed64_field n k = if k == 0 then [] else field n (fixed64 k) ∷ []

abbrev pub fixed32_field : ℕ → ℕ → List Field
fixed32_field n k = if k == 0 then [] else field n (fixed32 k) ∷ []

-- a message of these fields, also of none
abbrev pub message_in : ℕ → List Field → Field
message_in n fs = field n (bytes (message_bytes fs))

-- the same, unless it has no field
abbrev pub message_field : ℕ → List Field → List Field
message_field n [] = []
message_field n (f ∷ fs) = message_in n (f ∷ fs) ∷ []

-- messages, one field for each
abbrev pub repeated : ℕ → List (List Field) → List Field
repeated n ms = map (message_in n) ms
