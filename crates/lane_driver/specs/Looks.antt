-- When a connection is looked at though nothing is ready there, and what a look at it comes to.
use Rattle.std.specs.Prelude.{ℕ, ◌+◌, ◌-◌, ◌^◌, Bool, true, false, ◌||◌, List, [], ◌∷◌, Option, Some, None, min, if◌then◌else◌, length, nat_le, nat_lt, ◌==◌}
use Rattle.lane_turns.specs.declared.table.Leaving.TheVariants.{ReadFailed, WriteFailed}
use Rattle.lane_driver.specs.declared.link.Phase.{Phase}
use Rattle.lane_driver.specs.declared.link.Phase.TheVariants.{Serving, Closing, Lingering}
use Rattle.lane_driver.specs.declared.link.Looked.{Looked}
use Rattle.lane_driver.specs.declared.link.Looked.TheVariants.{Waits, Over, Leaves, HasTurn}
use Rattle.lane_driver.specs.declared.outgoing.SendResult.{SendResult}
use Rattle.lane_driver.specs.declared.outgoing.SendResult.TheVariants as sent
use Rattle.lane_driver.specs.declared.link.SocketStep.{SocketStep}
use Rattle.lane_driver.specs.declared.link.SocketStep.TheVariants as step
use Rattle.lane_driver.specs.declared.link.TheConstants.{LINGER_LIMIT, WRITE_LIMIT}

-- nothing is left to be sent
abbrev pub is_sent : List ℕ → Bool
is_sent [] = true
is_sent (b ∷ outgoing) = false

-- so many milliseconds later
abbrev pub later : (moment more : ℕ) → ℕ
later moment more = min (moment + more) (2 ^ 64 - 1)

-- since when, once more is to be sent: that alone counts where nothing was left
abbrev pub since_put : (left : List ℕ) → (since moment : ℕ) → ℕ
since_put left since moment = if is_sent left then moment else since

-- a write took some bytes
abbrev pub took_some : SendResult → Bool
took_some sent.Some = true
took_some sent.Blocked = false
took_some sent.Failed = false

-- Since when what is to be sent stands still, behind writes that left this much of that: since a write took something
-- last.
abbrev pub since_flushed : (left left_after : List ℕ) → (since moment : ℕ) → ℕ
since_flushed left left_after since moment = if nat_lt (length left_after) (length left) then moment else since

-- when it is to be looked at: where all was sent, once its time is over; else once writes have stood still for too long;
-- behind its last answer once what still comes was thrown away for long enough
abbrev pub deadline : Phase → (is_sent : Bool) → (due since : ℕ) → ℕ
deadline (Lingering left) is_sent due since = later since LINGER_LIMIT
deadline Serving is_sent due since = if is_sent then due else later since WRITE_LIMIT
deadline Closing is_sent due since = if is_sent then due else later since WRITE_LIMIT

-- the mark to stop is set
abbrev pub is_stopping : (stopping : Option ℕ) → Bool
is_stopping None = false
is_stopping (Some moment) = true

-- the moment has come from which on no request goes on
abbrev pub is_cut : (stopping : Option ℕ) → (now : ℕ) → Bool
is_cut None now = false
is_cut (Some moment) now = nat_le moment now

-- of a connection on which requests are read, by the moment at which its time is over. Between requests, and with all sent, it has a turn once its time is over or
-- the mark to stop is set. Else it leaves where it is cut, or where writes stood still for too long; and a request under
-- way has a turn once its time is over
abbrev pub serving_looked : (is_idle is_sent : Bool) → (by now : ℕ) → (stopping : Option ℕ) → Looked
serving_looked true true by now stopping = if is_stopping stopping || nat_le by now then HasTurn else Waits by
serving_looked true false by now stopping = if is_cut stopping now then Leaves ReadFailed else (if nat_le by now then Leaves WriteFailed else Waits by)
serving_looked false true by now stopping = if is_cut stopping now then Leaves ReadFailed else (if nat_le by now then HasTurn else Waits by)
serving_looked false false by now stopping = if is_cut stopping now then Leaves ReadFailed else (if nat_le by now then Leaves WriteFailed else Waits by)

-- what a look at a moment comes to. A connection of which the last answer is under way or was sent ends then
abbrev pub looked : Phase → (is_idle is_sent : Bool) → (by now : ℕ) → (stopping : Option ℕ) → Looked
looked Serving is_idle is_sent by now stopping = serving_looked is_idle is_sent by now stopping
looked Closing is_idle is_sent by now stopping = if is_cut stopping now || nat_le by now then Over else Waits by
looked (Lingering left) is_idle is_sent by now stopping = if is_cut stopping now || nat_le by now then Over else Waits by

-- what a connection that is served does before a read: with answers unsent it waits until it may be written; without
-- reads left it is served again, since the last one gave bytes, and more may be there; else it reads
abbrev pub before_read : (is_sent : Bool) → (reads : ℕ) → Option SocketStep
before_read false reads = Some step.Waits
before_read true reads = if reads == 0 then Some step.GoesOn else None
