-- For how long a write has been under way.
use Rattle.std.specs.Prelude.{ℕ, ◌-◌, ◌/◌, ◌==◌, if◌then◌else◌}

-- for how many whole seconds a write has been under way that began in this millisecond, counted from 1 on (0: none is),
-- in the one that is now, counted from 0 on
abbrev pub stalled_seconds : (began now : ℕ) → ℕ
stalled_seconds began now = if began == 0 then 0 else (now - (began - 1)) / 1000
