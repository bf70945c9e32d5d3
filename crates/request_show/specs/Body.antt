-- What is read of a body. Where the reader doesn't tell what it has, nothing is claimed.
use Rattle.std.specs.Prelude.{◌≡◌, ◌+◌, ◌<◌, ◌≤◌, ℕ, List, take, length, Option, IfSome}
use Rattle.std.specs.Option.{option_map}

-- the greatest length of a body, in bytes
abbrev pub greatest_length : ℕ
greatest_length = 67108864

-- these bytes are what a reader has, or one byte more of it than may be read
abbrev pub IsStart : Option (List ℕ) → List ℕ → Type 0
IsStart remaining bytes = IfSome (option_map (take (greatest_length + 1)) remaining) (λ start. bytes ≡ start)

-- they are all that it has, and not too many
abbrev pub IsWhole : Option (List ℕ) → List ℕ → Type 0
IsWhole remaining bytes = IfSome remaining (λ all. bytes ≡ all) × (length bytes ≤ greatest_length)

-- it has too many
abbrev pub IsTooLong : Option (List ℕ) → Type 0
IsTooLong remaining = IfSome remaining (λ all. greatest_length < length all)
