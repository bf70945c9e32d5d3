-- For how long decisions are told after somebody looked.
use Rattle.std.specs.Prelude.{ℕ, ◌+◌, Bool, false, ◌&&◌, nat_le, nat_lt, Option, Some, None}
use Rattle.collector_board.specs.declared.decision_listeners.TheConstants.{LOOKED_FOR}

-- Somebody looked so lately. A look that lies ahead, as the wall clock went back, counts for nothing.
abbrev pub is_looked_at : (looked : Option ℕ) → (now : ℕ) → Bool
is_looked_at None now = false
is_looked_at (Some at) now = nat_le at now && nat_lt now (at + LOOKED_FOR)
