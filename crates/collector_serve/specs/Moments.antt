-- Which moment it is, by the time that has passed.
use Rattle.std.specs.Prelude.{ℕ, ◌+◌, ◌-◌, ◌/◌, ◌^◌, min}

-- the moment of the start and the milliseconds since, rounded down, as far as they can be told
abbrev pub moment_after : (start passed_nanos : ℕ) → ℕ
moment_after start passed_nanos = min (start + passed_nanos / 1000000) (2 ^ 64 - 1)
