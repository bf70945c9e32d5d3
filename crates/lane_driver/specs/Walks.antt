-- When all connections of a lane are looked at: at the least deadline that the last walk met, and not at once.
use Rattle.std.specs.Prelude.{ℕ, ◌-◌, ◌^◌, Option, Some, None, min, max, if◌then◌else◌, nat_lt, nat_le}
use Rattle.lane_driver.specs.declared.walk.Walk.{Walk}
use Rattle.lane_driver.specs.declared.walk.TheConstants.{PAUSE}
use Rattle.lane_driver.specs.Looks.{later}

-- no moment
abbrev pub never : ℕ
never = 2 ^ 64 - 1

-- the walk met this deadline
abbrev pub met : Walk → (deadline : ℕ) → Walk
met w deadline = record w { least = min w.least deadline }

-- the next one begins no later than at this moment, also where one is under way
abbrev pub sooner : Walk → (moment : ℕ) → Walk
sooner w moment = record { at = w.at; least = min w.least moment; next = min w.next moment }

-- the next one begins where its moment has come
abbrev pub begun : Walk → (now : ℕ) → Walk
begun w now = if nat_le w.next now then record { at = Some 0; least = never; next = w.next } else w

-- when the next one begins: at the least deadline, if there is one, but not within the pause
abbrev pub next_after : (least now : ℕ) → ℕ
next_after least now = if nat_lt least never then max least (later now PAUSE) else least

-- it ends
abbrev pub ended : Walk → (now : ℕ) → Walk
ended w now = record { at = None; least = w.least; next = next_after w.least now }
