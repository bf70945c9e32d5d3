-- One connection among many, by a clock: what the turns of a lane brought it, each with its moment in milliseconds, and
-- what was done then. What bytes bring is as in Connection.
use Rattle.std.specs.Prelude.{◌≡◌, ℕ, ◌+◌, ◌<◌, ◌⊎◌, ◌||◌, Bool, true, false, List, [], ◌∷◌, length, Option, Some, None, MatchBool, if◌then◌else◌, nat_le}
use Rattle.std.specs.List.{list_any}
use Rattle.http_text.specs.declared.allowed.Allowed.{Allowed}
use Rattle.http_lane.specs.declared.answer.ServeEnd.{ServeEnd}
use Rattle.http_lane.specs.declared.answer.ServeEnd.TheVariants.{Closed, Cut, Quiet, Stopped, ReadFault, WriteFault, NoMemory}
use Rattle.http_lane.specs.declared.answer.TheConstants.{REQUEST_LIMIT}
use Rattle.http_lane.specs.declared.turns.TheConstants.{IDLE_LIMIT}
use Rattle.http_lane.specs.Connection.{RequestReading, in_head, in_body, grown, is_between, Cause, accepts, ConnectionEvent, IsLapse, Settles}

-- what a turn brought: some bytes, or some for which there was no memory; nothing, so that only the time was looked at;
-- the input's end; a fault of a read; that a write had failed or stood still for too long; or that the connection had
-- to leave while it was idle
pub data Coming : Type 0 where
  came unkept : List ℕ → Coming
  nothing over read_failed write_failed dismissed : Coming

-- whether a request is answered
abbrev pub answers : Cause → Bool
answers (accepts awaited) = false
answers _ = true

abbrev pub has_answer : List ConnectionEvent → Bool
has_answer events = list_any (λ (e : ConnectionEvent). answers e.cause) events

-- a connection between two turns: the request that is being read, and since when: the moment at which its first byte
-- came, or between requests that at which the last one was answered
pub record Waiting : Type 0 where
  pub reading : RequestReading
  pub since : ℕ
  pub end : Option ServeEnd

abbrev pub waiting : RequestReading → ℕ → Option ServeEnd → Waiting
waiting reading since end = record { reading = reading; since = since; end = end }

-- the connection came at this moment, with this allowed to its client
abbrev pub came_at : (allowed : Allowed) → ℕ → Waiting
came_at allowed moment = waiting (in_head allowed []) moment None

-- one turn: what it brought, its moment, what the stop mark said if it was asked, and what was done
pub record Turned : Type 0 where
  pub coming : Coming
  pub moment : ℕ
  pub is_stopped : Bool
  pub events : List ConnectionEvent

abbrev pub turned : Coming → ℕ → Bool → List ConnectionEvent → Turned
turned coming moment is_stopped events = record { coming = coming; moment = moment; is_stopped = is_stopped; events = events }

-- since when a connection waits after bytes: a request that was under way before, and isn't answered yet, keeps its
-- moment
abbrev pub since_after : Waiting → (moment : ℕ) → List ConnectionEvent → RequestReading → ℕ
since_after w moment events last = if is_between last || (is_between w.reading || has_answer events) then moment else w.since

-- nothing came between requests
abbrev pub idle_end : (since moment : ℕ) → Bool → Option ServeEnd
idle_end since moment is_stopped = if is_stopped then Some Stopped else (if nat_le (since + IDLE_LIMIT) moment then Some Quiet else None)

-- nothing came within a request: it is due once its time is over
abbrev pub IsLate : RequestReading → (since moment : ℕ) → List ConnectionEvent → Option ServeEnd → Type 0
IsLate r since moment events end = IsLapse r (since + REQUEST_LIMIT) moment events end

abbrev pub IsTurnBy : Coming → Waiting → (moment : ℕ) → Bool → List ConnectionEvent → Waiting → Type 0
IsTurnBy (came bytes) w moment is_stopped events next =
    (0 < length bytes) × Settles (grown w.reading bytes) events next.end next.reading × (next.end ≡ None → next.since ≡ since_after w moment events next.reading)
IsTurnBy (unkept bytes) w moment is_stopped events next = (is_between w.reading ≡ true) × (events ≡ []) × (next.end ≡ Some NoMemory)
IsTurnBy nothing w moment is_stopped events next =
    (next.reading ≡ w.reading) × (next.since ≡ w.since)
    × MatchBool (is_between w.reading) ((events ≡ []) × (next.end ≡ idle_end w.since moment is_stopped)) (IsLate w.reading w.since moment events next.end)
IsTurnBy over w moment is_stopped events next = (events ≡ []) × (next.end ≡ Some (if is_between w.reading then Closed else Cut))
IsTurnBy read_failed w moment is_stopped events next = (events ≡ []) × (next.end ≡ Some ReadFault)
IsTurnBy write_failed w moment is_stopped events next = (events ≡ []) × (next.end ≡ Some WriteFault)
IsTurnBy dismissed w moment is_stopped events next = (is_between w.reading ≡ true) × (events ≡ []) × (next.end ≡ Some Quiet)

abbrev pub IsTurn : Waiting → Turned → Waiting → Type 0
IsTurn w t next = IsTurnBy t.coming w t.moment t.is_stopped t.events next

-- the turns follow each other, each where the connection hasn't ended
abbrev pub Turns : Waiting → List Turned → Waiting → Type 0
Turns w [] last = last ≡ w
Turns w (t ∷ turns) last = (w.end ≡ None) × (next : Waiting) × IsTurn w t next × Turns next turns last

-- what is allowed to the client
abbrev pub allowed_in : RequestReading → Allowed
allowed_in (in_head allowed bytes) = allowed
allowed_in (in_body allowed post bytes) = allowed

-- what awaits more of a reading: an engine while a request is under way, and nothing between requests
abbrev pub AwaitsBy : {E : Type 0} → (allowed : Allowed) → (awaits : E → RequestReading → Type 0) → Option E → RequestReading → Type 0
AwaitsBy allowed awaits None r = r ≡ in_head allowed []
AwaitsBy allowed awaits (Some engine) r = awaits engine r × (is_between r ≡ false) × (allowed_in r ≡ allowed)

-- the bytes came, or there was no memory for them
abbrev pub IsTaken : List ℕ → Coming → Type 0
IsTaken piece coming = (coming ≡ came piece) ⊎ (coming ≡ unkept piece)
