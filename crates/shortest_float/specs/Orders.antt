-- How a number compares with the two points halfway to its neighbours, and a product by its upper bits.
use Rattle.std.specs.Prelude.{ℕ, ◌+◌, ◌*◌, ◌/◌, ◌%◌, ◌^◌, Bool, true, false}
use Rattle.std.specs.declared.cmp.Ordering.{Ordering}
use Rattle.std.specs.declared.cmp.Ordering.TheVariants.{Less, Equal, Greater}

-- it is above the lower and below the upper, or at one of them where `even` says so
abbrev pub is_between : Ordering → Ordering → Bool → Bool
is_between Less upper even = false
is_between Equal upper even = even
is_between Greater Less even = true
is_between Greater Equal even = even
is_between Greater Greater even = false

-- a row of 128 bits times a number, without the lowest 64 bits, or 1 less
abbrev pub product : ℕ → ℕ → ℕ
product row n = row / 2 ^ 64 * n + row % 2 ^ 64 * n / 2 ^ 64
