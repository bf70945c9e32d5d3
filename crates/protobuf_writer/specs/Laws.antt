-- What is written is read as that.
use Rattle.std.specs.Prelude.{◌≡◌, ℕ, ◌<◌, ◌^◌, List, ◌++◌, length, Ok}
use Rattle.std.specs.List.{AllByRecursion}
use Rattle.protobuf_wire.specs.Wire.{Value, Field, varint, fixed64, bytes, fixed32, number, fields_of}
use Rattle.protobuf_writer.specs.Writing.{number_bytes, message_bytes}

-- a number that was written is read, with any bytes behind it
abbrev pub NumbersAreRead : Type 0
NumbersAreRead = (k : ℕ) (s : List ℕ) → k < 2 ^ 64 → number (number_bytes k ++ s) ≡ Ok (k, s)

-- what a value holds has room in its wire type
abbrev pub ValueFits : Value → Type 0
ValueFits (varint k) = k < 2 ^ 64
ValueFits (fixed64 k) = k < 2 ^ 64
ValueFits (bytes s) = length s < 2 ^ 64
ValueFits (fixed32 k) = k < 2 ^ 32

-- so has a field's value, and its number is one
abbrev pub FieldFits : Field → Type 0
FieldFits f = (0 < f.number) × (f.number < 2 ^ 29) × ValueFits f.value

abbrev pub FieldsFit : List Field → Type 0
FieldsFit = AllByRecursion FieldFits

-- the fields of a message that was written are those
abbrev pub FieldsAreRead : Type 0
FieldsAreRead = (fs : List Field) → FieldsFit fs → fields_of (message_bytes fs) ≡ Ok fs
