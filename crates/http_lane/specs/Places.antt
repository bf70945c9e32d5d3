-- The place of a request among those of which a lane told its clock.
use Rattle.std.specs.Prelude.{ℕ, ◌+◌, Option, Some, None}
use Rattle.std.specs.declared.snapshot.Snapshot.{Snapshot}

-- of so many it was told: of none, or of one more than before
abbrev pub place_behind : Option (Snapshot ℕ) → ℕ
place_behind None = 0
place_behind (Some earlier) = earlier.value + 1
