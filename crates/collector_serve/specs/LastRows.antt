-- Which row of the history is the last one.
use Rattle.std.specs.Prelude.{ℕ, zero, suc, Option, Some, None}

-- the number of the last of so many rows, counted from 0 on
abbrev pub last_row : (added : ℕ) → Option ℕ
last_row zero = None
last_row (suc n) = Some n
