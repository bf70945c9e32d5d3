-- What a driver says.
use Rattle.std.specs.Prelude.{ℕ, ◌<◌, ◌≤◌}
use Rattle.lane_turns.specs.declared.serving.Next.{Next}
use Rattle.lane_turns.specs.declared.serving.Next.TheVariants.{Came}

-- bytes that came lie within the piece, and there is one at least
abbrev pub FitsNext : Next → ℕ → Type 0
FitsNext (Came key len) room = (0 < len) × (len ≤ room)
FitsNext _ room = Unit {0}
