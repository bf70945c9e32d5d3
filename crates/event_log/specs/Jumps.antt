-- Whether the wall clock was set.
use Rattle.std.specs.Prelude.{ℕ, ◌+◌, ◌-◌, nat_le, if◌then◌else◌, Option, Some, None}

-- how far two moments lie apart
abbrev pub apart : ℕ → ℕ → ℕ
apart a b = (a - b) + (b - a)

-- a second at least from where it should be
abbrev pub jump_of : (wall expected : ℕ) → Option ℕ
jump_of wall expected = if nat_le 1000 (apart wall expected) then Some (apart wall expected) else None
