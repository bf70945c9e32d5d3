-- How far a reader is.
use Rattle.std.specs.Prelude.{ℕ, ◌*◌, ◌/◌, ◌-◌, ◌^◌, ◌==◌, if◌then◌else◌, min}

-- how many steps so many bytes are: of a hundred where it is known how many bytes there are, else of 64 MiB each
abbrev pub steps_of : (read size : ℕ) → ℕ
steps_of read size = if size == 0 then read / 67108864 else min (min read size * 100) (2 ^ 64 - 1) / size
