-- What a lane did for all its connections, turn by turn, in the order in which it did that.
use Rattle.std.specs.Prelude.{◌≡◌, ◌≢◌, ℕ, ◌+◌, ◌<◌, ◌≤◌, ◌==◌, Bool, true, false, not, List, [], ◌∷◌, ◌++◌, length, flat_map, Option, Some, None, MatchBool}
use Rattle.std.specs.List.{list_any}
use Rattle.lane_seq.specs.Pushes.{LaneState}
use Rattle.lane_seq.specs.declared.preparing.Conn.{Conn}
use Rattle.http_text.specs.declared.allowed.Allowed.{Allowed}
use Rattle.http_lane.specs.declared.turns.Exchange.{Exchange}
use Rattle.http_lane.specs.declared.answer.ServeEnd.{ServeEnd}
use Rattle.http_lane.specs.declared.answer.ServeEnd.TheVariants.{CounterOverflow}
use Rattle.http_lane.specs.Connection.{Submission, SubmitsAll, submissions}
use Rattle.http_lane.specs.Intake.{Intake, intake, connected}
use Rattle.http_lane.specs.Requests.{Awaits}
use Rattle.http_lane.specs.Telling.{TakenRequest, taken_of, AreHeard}
use Rattle.http_lane.specs.Turns.{Waiting, came_at, Turned, IsTurn, AwaitsBy}
use Rattle.lane_turns.specs.declared.serving.Done.{Done}
use Rattle.lane_turns.specs.declared.serving.Done.TheVariants.{Turned as HadTurn}

-- what a lane did: it took a connection, at a moment; or a connection had a turn, before and after which its next span
-- had these numbers. Each names the connection by its number on the lane
pub data Act : Type 0 where
  took : (ordinal moment : ℕ) → Act
  had : (ordinal before after : ℕ) → Turned → Act

-- the connection of an act
abbrev pub of_act : Act → ℕ
of_act (took ordinal moment) = ordinal
of_act (had ordinal before after t) = ordinal

-- a lane, and what it counted
pub record LaneNow (P : Type 0) : Type 0 where
  pub lane : LaneState P
  pub counted : List ℕ

abbrev pub lane_now : {P : Type 0} → LaneState P → List ℕ → LaneNow P
lane_now lane counted = record { lane = lane; counted = counted }

-- a connection of this lane
abbrev pub conn_of : (lane ordinal next : ℕ) → Conn
conn_of lane ordinal next = record { key = record { lane = lane; ordinal = ordinal }; next = next }

-- a connection between two turns, and the number of its next span
pub record Numbered : Type 0 where
  pub waiting : Waiting
  pub next : ℕ

abbrev pub numbered : Waiting → ℕ → Numbered
numbered waiting next = record { waiting = waiting; next = next }

-- of these acts, those of one connection are turns of it: each follows the one before it, and numbers its spans where
-- that one ended
abbrev pub TurnsOf : (ordinal : ℕ) → Numbered → List Act → Numbered → Type 0
TurnsOf ordinal c [] last = last ≡ c
TurnsOf ordinal c (took j moment ∷ acts) last = MatchBool (j == ordinal) ⊥ (TurnsOf ordinal c acts last)
TurnsOf ordinal c (had j before after t ∷ acts) last = MatchBool (j == ordinal)
    ((c.waiting.end ≡ None) × (before ≡ c.next) × (next : Waiting) × IsTurn c.waiting t next × TurnsOf ordinal (numbered next after) acts last)
    (TurnsOf ordinal c acts last)

-- of these acts, those of one connection are its run: it was taken, and then had turns; with this allowed to clients
abbrev pub RunOf : (allowed : Allowed) → (ordinal : ℕ) → List Act → Numbered → Type 0
RunOf allowed ordinal [] last = ⊥
RunOf allowed ordinal (took j moment ∷ acts) last = MatchBool (j == ordinal) (TurnsOf ordinal (numbered (came_at allowed moment) 0) acts last) (RunOf allowed ordinal acts last)
RunOf allowed ordinal (had j before after t ∷ acts) last = MatchBool (j == ordinal) ⊥ (RunOf allowed ordinal acts last)

-- none of these acts is of this connection
abbrev pub HasNone : (ordinal : ℕ) → List Act → Type 0
HasNone ordinal [] = Unit {0}
HasNone ordinal (a ∷ acts) = ((of_act a == ordinal) ≡ false) × HasNone ordinal acts

module _ {P : Type 0} (submits : Intake P → Submission → Intake P → Type 0) (number : ℕ) where
  -- the lane took each connection as its next, and what the turns submitted went to it one after the other, each by its
  -- connection
  abbrev pub LaneDid : (old : LaneNow P) → List Act → (new : LaneNow P) → Type 0
  LaneDid old [] new = new ≡ old
  LaneDid old (took ordinal moment ∷ acts) new = (ordinal ≡ old.lane.connected) × LaneDid (lane_now (connected old.lane) old.counted) acts new
  LaneDid old (had ordinal before after t ∷ acts) new = (mid : LaneNow P)
      × SubmitsAll submits (intake old.lane (conn_of number ordinal before) old.counted) (submissions t.events) (intake mid.lane (conn_of number ordinal after) mid.counted)
      × LaneDid mid acts new

module _ {P : Type 0} (submits : Intake P → Submission → Intake P → Type 0) (allowed : Allowed) (number : ℕ) where
  -- an open connection: its acts came to a reading that it awaits more of
  pub record IsOpen (acts : List Act) (now : LaneNow P) (x : Exchange) : Type 0 where
    pub waiting : Waiting
    pub run : RunOf allowed x.conn.key.ordinal acts (numbered waiting x.conn.next)
    pub goes_on : waiting.end ≡ None
    pub awaits : AwaitsBy allowed Awaits x.engine waiting.reading
    pub since : x.since ≡ waiting.since
    pub of_lane : x.conn ≡ conn_of number x.conn.key.ordinal x.conn.next
    pub below : x.conn.key.ordinal < now.lane.connected

  -- a connection that was taken has a run; where that didn't end, it is open
  pub record HasRun (open_at : (key : ℕ) → Option Exchange) (acts : List Act) (ordinal : ℕ) : Type 0 where
    pub last : Numbered
    pub run : RunOf allowed ordinal acts last
    pub is_open : last.waiting.end ≡ None → (key : ℕ) × (x : Exchange) × (open_at key ≡ Some x) × (x.conn.key.ordinal ≡ ordinal)

  -- a lane and its open connections, by key, after these acts; no two have one number
  pub record Fits (first : LaneNow P) (open_at : (key : ℕ) → Option Exchange) (acts : List Act) (now : LaneNow P) : Type 0 where
    pub did : LaneDid submits number first acts now
    pub each : (key : ℕ) (x : Exchange) → open_at key ≡ Some x → IsOpen acts now x
    pub apart : (key other : ℕ) (x y : Exchange) → open_at key ≡ Some x → open_at other ≡ Some y → key ≢ other → x.conn.key.ordinal ≢ y.conn.key.ordinal
    pub runs : (ordinal : ℕ) → first.lane.connected ≤ ordinal → ordinal < now.lane.connected → HasRun open_at acts ordinal
    pub fresh : (ordinal : ℕ) → now.lane.connected ≤ ordinal → HasNone ordinal acts
    pub number_is : now.lane.number ≡ number

-- whether the spans of some request found no place in the counts
abbrev pub any_uncounted : List Submission → Bool
any_uncounted ss = list_any (λ (s : Submission). not s.is_counted) ss

abbrev pub act_uncounted : Act → Bool
act_uncounted (took ordinal moment) = false
act_uncounted (had ordinal before after t) = any_uncounted (submissions t.events)

abbrev pub acts_uncounted : List Act → Bool
acts_uncounted acts = list_any act_uncounted acts

-- a connection ends because a count would have passed 2^64-1
abbrev pub is_full_end : Option ServeEnd → Bool
is_full_end (Some CounterOverflow) = true
is_full_end _ = false

abbrev pub is_full_done : Done → Bool
is_full_done (HadTurn key end due is_idle) = is_full_end end
is_full_done _ = false

-- the lane and its open connections went on from here to there: whatever acts led here, these more led there, and `by`
-- holds of them; the flag says whether the spans of some request of theirs found no place in the counts
abbrev pub GoesOn : {P : Type 0} → (submits : Intake P → Submission → Intake P → Type 0) → (allowed : Allowed) → (old_open : (key : ℕ) → Option Exchange) → (old : LaneNow P) → (new_open : (key : ℕ) → Option Exchange) → (new : LaneNow P) → (is_full : Bool) → (by : (earlier more : List Act) → Type 0) → Type 0
GoesOn {P} submits allowed old_open old new_open new is_full by = (number : ℕ) (first : LaneNow P) (acts : List Act) → Fits submits allowed number first old_open acts old
    → (more : List Act) × Fits submits allowed number first new_open (acts ++ more) new × (acts_uncounted more ≡ is_full) × by acts more

-- the requests that were taken in an act of this lane, and in acts, in the order in which the lane received them
abbrev pub act_taken : (number : ℕ) → Act → List TakenRequest
act_taken number (took ordinal moment) = []
act_taken number (had ordinal before after t) = taken_of (conn_of number ordinal before).key (submissions t.events)

abbrev pub acts_taken : (number : ℕ) → List Act → List TakenRequest
acts_taken number acts = flat_map (λ (a : Act). act_taken number a) acts

-- none was
abbrev pub TakesNone : List Act → Type 0
TakesNone acts = (number : ℕ) → acts_taken number acts ≡ []

-- While this lane did these acts its clock was told of just the requests that were taken, in their order. It had been told
-- of `before` requests, and then of `after`.
pub record TellsActs (heard : (place : ℕ) → TakenRequest → Type 0) (before after number : ℕ) (acts : List Act) : Type 0 where
  pub told : AreHeard heard before (acts_taken number acts)
  pub all : after ≡ before + length (acts_taken number acts)

-- each open connection awaits more of some reading
abbrev pub AllAwait : (allowed : Allowed) → (open_at : (key : ℕ) → Option Exchange) → Type 0
AllAwait allowed open_at = (key : ℕ) (x : Exchange) → open_at key ≡ Some x → (w : Waiting) × AwaitsBy allowed Awaits x.engine w.reading

-- A lane served connections until each was over, unless a count would have passed 2^64-1 (the last flag): then it
-- served no further. This was allowed to clients.
pub record ServesTurns {P : Type 0} (submits : Intake P → Submission → Intake P → Type 0) (allowed : Allowed) (old new : LaneNow P) (is_full : Bool) : Type 0 where
  pub acts : List Act
  pub open_at : (key : ℕ) → Option Exchange
  pub fits : Fits submits allowed old.lane.number old open_at acts new
  pub full : acts_uncounted acts ≡ is_full
  pub all_over : is_full ≡ false → (key : ℕ) → open_at key ≡ None
