-- The text of a float: the fewest digits that read as it, the closest such ones, with a point or an exponent.
use Rattle.std.specs.Prelude.{◌≡◌, ℕ, ◌^◌, ◌<◌, ◌≤◌, ◌==◌, ◌++◌, List, true, codes, to_bits, nat_le, Some, if◌then◌else◌}
use Rattle.std.specs.Float.{Float, binary64}
use Rattle.std.specs.Fmt.{decimal, sign_text}
use Rattle.json.specs.Print.{IsNumber}
use Rattle.serde_json.specs.Data.{float}
use Rattle.serde_json.specs.Read.{number_of}
use Rattle.shortest_float.specs.Decimals.{size_of, size_bits, reads, distance, shortest_digits, shortest_power}
use Rattle.shortest_float.specs.Layout.{layout}

-- the text of a size, from its bits and what it is in units of the least float
unfoldable pub size_text : ℕ → ℕ → List ℕ
size_text bits size = if bits == 0 then codes "0.0" else layout (decimal (shortest_digits bits size)) (shortest_power bits size)

unfoldable pub shortest_text : Float → List ℕ
shortest_text x = sign_text (nat_le (2 ^ 63) (to_bits binary64 x)) ++ size_text (size_bits x) (size_of x)

-- no decimal of fewer digits reads as the float
abbrev pub HasFewestDigits : Float → Type 0
HasFewestDigits x =
    0 < size_bits x → (power digits count : ℕ) → reads (size_bits x) power digits ≡ true → digits < 10 ^ count → shortest_digits (size_bits x) (size_of x) < 10 ^ count

-- of the multiples of the same power of ten that read as the float, none is closer to it
abbrev pub HasClosestDigits : Float → Type 0
HasClosestDigits x =
    let power = shortest_power (size_bits x) (size_of x) in
    0 < size_bits x → (digits : ℕ) → reads (size_bits x) power digits ≡ true → distance (size_of x) power (shortest_digits (size_bits x) (size_of x)) ≤ distance (size_of x) power digits

-- the text is a JSON number that reads as the float again
abbrev pub HasText : Float → Type 0
HasText x = IsNumber (shortest_text x) × (number_of (shortest_text x) ≡ Some (float x))
