-- How the value of a field is taken, by the field's kind, and how a message is made of its fields (Protocol Buffers,
-- "Encoding"). A field of another wire type than its kind's counts as unknown, and is skipped.
use Rattle.std.specs.Prelude.{ℕ, zero, suc, ◌%◌, ◌^◌, Bool, not, ℤ, List, [], ◌∷◌, length, Result, Ok, Err, ◌==◌, if◌then◌else◌}
use Rattle.std.specs.Int.{w32, w64, cast_signed}
use Rattle.std.specs.Float.{Float, binary64}
use Rattle.std.specs.Float.Ieee.{of_bits}
use Rattle.std.specs.Str.{is_utf8}
use Rattle.protobuf_wire.specs.declared.fault.WireFault.{WireFault}
use Rattle.protobuf_wire.specs.Wire.{Field, next_field}
use Rattle.otlp_protobuf.specs.declared.protobuf_fault.ProtobufFault.{ProtobufFault}
use Rattle.otlp_protobuf.specs.declared.protobuf_fault.ProtobufFault.TheVariants as faults

-- what is read, or the first fault that is met
abbrev pub Read : Type 0 → Type 0
Read A = Result A ProtobufFault

-- what is read of what is read, unless that met a fault
infixl 10 ◌>>=◌
abbrev pub ◌>>=◌ : {A B : Type 0} → Read A → (A → Read B) → Read B
Ok a >>= f = f a
Err e >>= f = Err e

-- what is made of what is read
abbrev pub map_read : {A B : Type 0} → (A → B) → Read A → Read B
map_read f (Ok a) = Ok (f a)
map_read f (Err e) = Err e

-- what is read on the wire
abbrev pub on_wire : {A : Type 0} → Result A WireFault → Read A
on_wire (Ok a) = Ok a
on_wire (Err e) = Err (faults.Wire e)

-- a `string`: text in UTF-8
abbrev pub text : List ℕ → Read (List ℕ)
text s = if is_utf8 s then Ok s else Err faults.Utf8

-- an `int32`, or the number of an enumeration: the lowest 32 bits, in two's complement
abbrev pub int32 : ℕ → ℤ
int32 n = cast_signed w32 (n % 2 ^ 32)

-- an `int64`
abbrev pub int64 : ℕ → ℤ
int64 n = cast_signed w64 n

-- a `uint32`: the lowest 32 bits
abbrev pub uint32 : ℕ → ℕ
uint32 n = n % 2 ^ 32

-- a `bool`
abbrev pub truth : ℕ → Bool
truth n = not (n == 0)

-- a `double`; each NaN is one value
abbrev pub double : ℕ → Float
double n = of_bits binary64 n

-- a message with at most n fields more of these bytes, each read and taken before the next is looked at: `step` says
-- what one makes of it
unfoldable pub merged_in : {S : Type 0} → ℕ → (S → Field → Read S) → S → List ℕ → Read S
merged_in n step s [] = Ok s
merged_in zero step s (b ∷ bytes) = Ok s
merged_in (suc n) step s (b ∷ bytes) = on_wire (next_field (b ∷ bytes)) >>= λ f. step s f.0 >>= λ t. merged_in n step t f.1

-- a message with all fields of these bytes, each of which takes a byte at least; so a message that comes in two parts is
-- made of the fields of both
abbrev pub merged : {S : Type 0} → (S → Field → Read S) → S → List ℕ → Read S
merged step s bytes = merged_in (length bytes) step s bytes
