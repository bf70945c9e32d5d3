-- What a contract sees of a field that was read.
use Rattle.std.specs.Prelude.{◌≡◌, ℕ, ◌<◌, List, [], ◌∷◌, length, Option, Some, None, Result, Ok, Err}
use Rattle.protobuf_wire.specs.Wire.{Value, Field, varint, fixed64, bytes, fixed32, ◌>>=◌, next_field, fields_of}
use Rattle.protobuf_wire.specs.declared.field.WireValue.{WireValue}
use Rattle.protobuf_wire.specs.declared.field.WireValue.TheVariants as wire
use Rattle.protobuf_wire.specs.declared.field.WireField.{WireField}
use Rattle.protobuf_wire.specs.declared.fault.WireFault.{WireFault}

abbrev pub seen : WireValue → Value
seen (wire.Varint n) = varint n
seen (wire.Fixed64 n) = fixed64 n
seen (wire.Bytes s) = bytes s.now
seen (wire.Fixed32 n) = fixed32 n

abbrev pub seen_field : WireField → Field
seen_field f = record { number = f.number; value = seen f.value }

-- what a function answers, seen through f, is what the definition reads
abbrev pub SeenAs : {X Y : Type 0} → (X → Y) → Result X WireFault → Result Y WireFault → Type 0
SeenAs f (Ok x) read = read ≡ Ok (f x)
SeenAs f (Err e) read = read ≡ Err e

-- The fields of the bytes `old` are this one, and then those of the bytes `new`; or there is none; or there is a fault.
abbrev pub Steps : List ℕ → List ℕ → Result (Option WireField) WireFault → Type 0
Steps old new (Ok (Some f)) = (fields_of old ≡ (fields_of new >>= λ fs. Ok (seen_field f ∷ fs))) × (length new < length old)
Steps old new (Ok None) = (fields_of old ≡ Ok []) × (new ≡ old)
Steps old new (Err e) = (fields_of old ≡ Err e) × (new ≡ old)

-- This is the field at the front of the bytes `old`, and behind it stand those of `new`; or there is no byte; or what
-- stands at the front is no field.
abbrev pub TakesFirst : List ℕ → List ℕ → Result (Option WireField) WireFault → Type 0
TakesFirst old new (Ok (Some f)) = (next_field old ≡ Ok (seen_field f, new)) × (0 < length old)
TakesFirst old new (Ok None) = old ≡ []
TakesFirst old new (Err e) = (next_field old ≡ Err e) × (0 < length old)
