-- Sizes as they are counted: up to 201, one more than may nest.
use Rattle.std.specs.Prelude.{◌≡◌, ℕ, ◌≤◌, min, Bool, true}
use Rattle.ottl_text.specs.Syntax.{Term}
use Rattle.ottl_print.specs.Printing.{Size, size}

abbrev pub IsCapped : ℕ → ℕ → Type 0
IsCapped counted n = counted ≡ min n 201

-- the levels as they are counted, and the row where the levels may nest
pub record IsSizeOf (s : Size) (levels row : ℕ) : Type 0 where
  pub levels_are : IsCapped levels s.levels
  pub row_is : s.levels ≤ 200 → row ≡ s.row
  pub row_small : row ≤ 201

-- where parentheses are put to save levels, they save enough
pub record Fits (sparing : Bool) (t : Term) : Type 0 where
  pub few : sparing ≡ true → (size true t).levels ≤ 200
