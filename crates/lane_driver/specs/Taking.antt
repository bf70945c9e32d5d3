-- When a lane takes a connection that waits at the listener, and which ones leave for it.
use Rattle.std.specs.Prelude.{ℕ, ◌+◌, ◌-◌, ◌*◌, ◌/◌, min}
use Rattle.http_lane.specs.declared.turns.TheConstants.{IDLE_LIMIT}
use Rattle.lane_driver.specs.declared.links.TheConstants.{GRACE, PATIENCE, MOST_PATIENCE}
use Rattle.lane_driver.specs.Looks.{later}

-- how many more a lane has than the one with the fewest, and an eighth of these
abbrev pub beyond_fewest : (own least : ℕ) → ℕ
beyond_fewest own least = own - (least + least / 8)

-- From when on a connection that may wait since a moment is taken: at once by the lanes with the fewest, and by another
-- the later the more it has.
abbrev pub taken_from : (own least since : ℕ) → ℕ
taken_from own least since = later since (min (beyond_fewest own least * PATIENCE) MOST_PATIENCE)

-- where too many files are open a connection leaves that would be idle too long by this moment: one that has been idle
-- for a while
abbrev pub leaves_by : (now : ℕ) → ℕ
leaves_by now = later now (IDLE_LIMIT - GRACE)
