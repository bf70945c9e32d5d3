-- How many spans an answer in protobuf says were rejected (`ExportTraceServiceResponse`, `ExportTracePartialSuccess`).
use Rattle.std.specs.Prelude.{◌≡◌, ℕ, ◌^◌, ◌<◌, List, Result, Ok, Err, nat_lt, ◌==◌, if◌then◌else◌}
use Rattle.std.specs.Str.Parse.{IsNumeral, digits_value, without_leading_plus}
use Rattle.protobuf_wire.specs.declared.fault.WireFault.{WireFault}
use Rattle.protobuf_wire.specs.Wire.{Value, Field, varint, bytes}
use Rattle.otlp_protobuf.specs.declared.protobuf_fault.ProtobufFault.TheVariants.{Wire}
use Rattle.otlp_protobuf.specs.Kinds.{Read, merged}

-- an `ExportTracePartialSuccess` with a field more: the last `rejected_spans` stands
abbrev pub spans_by : ℕ → (number : ℕ) → Value → ℕ
spans_by before number (varint n) = if number == 1 then n else before
spans_by before number _ = before

abbrev pub spans_step : ℕ → Field → Read ℕ
spans_step before f = Ok (spans_by before f.number f.value)

-- an `ExportTraceServiceResponse` with a field more: a `partial_success` that comes in parts is merged
abbrev pub response_by : ℕ → (number : ℕ) → Value → Read ℕ
response_by before number (bytes s) = if number == 1 then merged spans_step before s else Ok before
response_by before number _ = Ok before

abbrev pub response_step : ℕ → Field → Read ℕ
response_step before f = response_by before f.number f.value

-- the number is an `int64`, and one below zero is none; so it is of bytes that are no message
abbrev pub told : Read ℕ → ℕ
told (Ok n) = if nat_lt n (2 ^ 63) then n else 0
told (Err fault) = 0

abbrev pub rejected_in : List ℕ → ℕ
rejected_in body = told (merged response_step 0 body)

-- a text of digits that write a number of 64 bits tells that number, as 64-bit numbers stand in the JSON encoding, and
-- any other text tells none
abbrev pub IsNumber : List ℕ → Type 0
IsNumber text = IsNumeral 10 (without_leading_plus text) × (digits_value 10 (without_leading_plus text) < 2 ^ 64)

pub record IsToldBy (text : List ℕ) (told : ℕ) : Type 0 where
  pub number : IsNumber text → told ≡ digits_value 10 (without_leading_plus text)
  pub none : (IsNumber text → ⊥) → told ≡ 0

-- what is answered is what is read
abbrev pub Reads : Result ℕ WireFault → Read ℕ → Type 0
Reads (Ok n) read = read ≡ Ok n
Reads (Err fault) read = read ≡ Err (Wire fault)
