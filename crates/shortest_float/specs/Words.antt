-- A number as words of 64 bits, the highest first.
use Rattle.std.specs.Prelude.{ℕ, ◌+◌, ◌*◌, ◌^◌, List, [], ◌∷◌, length}

-- the words are the digits of the number in base 2 ^ 64
unfoldable pub value : List ℕ → ℕ
value [] = 0
value (word ∷ lower) = word * (2 ^ 64) ^ length lower + value lower
