-- How long a backend is tried, before and once the collector closes, in milliseconds.
use Rattle.std.specs.Prelude.{ℕ, ◌-◌, ◌*◌, ◌^◌, Bool, true, false, ◌||◌, Option, Some, None, min, max, if◌then◌else◌, nat_le, ◌==◌}
use Rattle.post_socket.specs.declared.closing.TheConstants.{SLICE}

-- since when the collector closes, after a look at a moment: the first look that found it so counts
abbrev pub closing_since : (before : Option ℕ) → (is_closing : Bool) → (now : ℕ) → Option ℕ
closing_since (Some since) is_closing now = Some since
closing_since None true now = Some now
closing_since None false now = None

-- how long is left at a moment, once the collector closes
abbrev pub time_left : (since : Option ℕ) → (close_wait now : ℕ) → Option ℕ
time_left None close_wait now = None
time_left (Some since) close_wait now = Some (close_wait - (now - since))

-- how long an attempt may take, which is at least a millisecond
abbrev pub attempt_limit : (left : Option ℕ) → (timeout : ℕ) → ℕ
attempt_limit None timeout = max timeout 1
attempt_limit (Some left) timeout = max (min left timeout) 1

-- nothing is left
abbrev pub is_spent : (left : Option ℕ) → Bool
is_spent None = false
is_spent (Some left) = left == 0

-- how long is slept next in a wait of which this much has passed, so that a close is seen meanwhile; nothing: it is over
abbrev pub next_sleep : (milliseconds waited : ℕ) → (left : Option ℕ) → Option ℕ
next_sleep milliseconds waited left = if nat_le milliseconds waited || is_spent left then None else Some (min (milliseconds - waited) SLICE)

-- what a backend asked for, of so many seconds
abbrev pub milliseconds_asked : Option ℕ → Option ℕ
milliseconds_asked None = None
milliseconds_asked (Some seconds) = Some (min (seconds * 1000) (2 ^ 64 - 1))
