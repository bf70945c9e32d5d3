-- The numbers in a script of the connections of some runs: each run numbers its own from 0.
use Rattle.std.specs.Prelude.{◌≡◌, ◌<◌, ◌+◌, ◌*◌, ℕ}
use Rattle.span_ids.specs.declared.keys.ConnKey.{ConnKey}
use Rattle.script_line.specs.Connections.{number_of}

-- a connection of one of some runs, as if there were one run, in which the runs took turns
abbrev pub among_runs : (runs run : ℕ) → ConnKey → ConnKey
among_runs runs run key = record { lane = key.lane; ordinal = key.ordinal * runs + run }

-- its number
abbrev pub pending_number : (runs lanes run : ℕ) → ConnKey → ℕ
pending_number runs lanes run key = number_of lanes (among_runs runs run key)

-- two connections of such runs and lanes that have one number are one connection of one run
abbrev pub PendingStayApart : Type 0
PendingStayApart =
    (runs lanes r s : ℕ) (a b : ConnKey) → r < runs → s < runs → a.lane < lanes → b.lane < lanes
    → pending_number runs lanes r a ≡ pending_number runs lanes s b → (r ≡ s) × (a ≡ b)
