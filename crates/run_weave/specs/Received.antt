-- What was received from the connections that a lane's server served: one after the other, or many at once; and what
-- each way of serving keeps.
use Rattle.std.specs.Prelude.{◌≡◌, ℕ, Bool, true, false, not, List, [], ◌∷◌, length, filter, Option, None}
use Rattle.otlp_types.specs.declared.arrival.Arrival.{Arrival}
use Rattle.otlp_types.specs.declared.arrival.Item.{Item}
use Rattle.span_ids.specs.declared.outcome.Reason.TheVariants.{InvalidId, QueueFull, NoMemory, Evicted, NotSampled, LateNotSampled, ExporterDown}
use Rattle.drop_ledger.specs.declared.count.Count.{Count}
use Rattle.drop_ledger.specs.declared.count.Count.TheVariants.{Received, Handed, Dropped}
use Rattle.drop_ledger.specs.Places.{Gains, Passes}
use Rattle.lane_queue.specs.Ends.{EndState, WaitAs, TakesItem, IsRefused}
use Rattle.http_text.specs.declared.allowed.Allowed.{Allowed}
use Rattle.http_lane.specs.declared.turns.Exchange.{Exchange}
use Rattle.http_lane.specs.Connection.{SubmitsAll, submissions}
use Rattle.http_lane.specs.Intake.{Submits, intake, connected}
use Rattle.lane_turns.specs.Acts.{Act, took, had, conn_of, Fits, acts_uncounted}
use Rattle.lane_turns.specs.Driven.{IsDriven}
use Rattle.lane_turns.specs.declared.serving.Next.{Next}
use Rattle.lane_turns.specs.declared.serving.Done.{Done}
use Rattle.lane_worker.specs.Serving.{Connection, LaneAt, lane_at, HasServed, ServesMany}
use Rattle.world_theory.specs.Step.{has_ids}
use Rattle.span_weave.specs.Threads.{AreNumbered}
use Rattle.span_weave.specs.Pushes.{TriesOf}
use Rattle.run_weave.specs.Lanes.{Logs, log, ReceivesAll}
use Rattle.run_weave.specs.Workers.{zeros}

-- ---- one connection after the other

module _ {V F X : Type 0} (acceptor_of : V → F) (gives : F → Option X → F → Type 0) (known : X → Connection) where
  abbrev pub serves_one_by_one : (capacity : ℕ) → (old : V) → (before : LaneAt) → (new : V) → (after : LaneAt) → (is_full : Bool) → Type 0
  serves_one_by_one capacity old before new after is_full = HasServed gives known capacity (acceptor_of old) before (acceptor_of new) after is_full

  -- there are connections that the acceptor gave, one after the other, of which this was received
  abbrev pub receives_one_by_one : (capacity : ℕ) → (old : V) → (at : LaneAt) → (before : List Arrival) → (new : V) → (last : LaneAt) → (after : List Arrival) → (is_full : Bool) → Type 0
  receives_one_by_one capacity old at before new last after is_full = (given : List X) × ReceivesAll gives known capacity given (acceptor_of old) at before (acceptor_of new) last after is_full

-- ---- many connections at once

-- the lane took each connection as its next, what the turns submitted went to it one after the other, each by its
-- connection, and this was received from that
abbrev pub ActsLog : (capacity number : ℕ) → (old : LaneAt) → (before : List Arrival) → List Act → (new : LaneAt) → (after : List Arrival) → Type 0
ActsLog capacity number old before [] new after = (new ≡ old) × (after ≡ before)
ActsLog capacity number old before (took ordinal moment ∷ acts) new after = (ordinal ≡ old.lane.connected) × ActsLog capacity number (lane_at (connected old.lane) old.counted) before acts new after
ActsLog capacity number old before (had ordinal b a t ∷ acts) new after = (mid : LaneAt) × (between : List Arrival)
    × SubmitsAll (Logs capacity) (log (intake old.lane (conn_of number ordinal b) old.counted) before) (submissions t.events) (log (intake mid.lane (conn_of number ordinal a) mid.counted) between)
    × ActsLog capacity number mid between acts new after

-- Many connections were served at once, and this was received from them: the turns of each follow its transcript by the
-- clock, and number its spans on; each was served to its end, unless a count would have passed 2^64-1.
pub record ReceivesMany (allowed : Allowed) (capacity : ℕ) (at : LaneAt) (before : List Arrival) (last : LaneAt) (after : List Arrival) (is_full : Bool) : Type 0 where
  pub acts : List Act
  pub open_at : (key : ℕ) → Option Exchange
  pub fits : Fits (Submits (TakesItem capacity) (IsRefused capacity)) allowed at.lane.number at open_at acts last
  pub logged : ActsLog capacity at.lane.number at before acts last after
  pub full : acts_uncounted acts ≡ is_full
  pub all_over : is_full ≡ false → (key : ℕ) → open_at key ≡ None

module _ {V D : Type 0} (allowed_of : V → Allowed) (driver_of : V → D) (asks : D → Next → ℕ → List ℕ → D → Type 0) (hears : D → Done → List ℕ → D → Type 0) where
  abbrev pub serves_by_turns : (capacity : ℕ) → (old : V) → (before : LaneAt) → (new : V) → (after : LaneAt) → (is_full : Bool) → Type 0
  serves_by_turns capacity old before new after is_full = ServesMany asks hears (allowed_of old) capacity (driver_of old) before (driver_of new) after is_full

  -- this was received from the connections, and round by round the lane did what its driver said
  abbrev pub receives_by_turns : (capacity : ℕ) → (old : V) → (at : LaneAt) → (before : List Arrival) → (new : V) → (last : LaneAt) → (after : List Arrival) → (is_full : Bool) → Type 0
  receives_by_turns capacity old at before new last after is_full =
      ReceivesMany (allowed_of old) capacity at before last after is_full
      × IsDriven asks hears (Submits (TakesItem capacity) (IsRefused capacity)) (allowed_of old) (driver_of old) at (driver_of new) last is_full

-- ---- what each way of serving keeps

-- what a lane counts at each count of these spans, of which `refused` found a queue full
abbrev pub lane_gains : List Arrival → (refused : ℕ) → Count → ℕ
lane_gains received refused Received = length received
lane_gains received refused Handed = 0
lane_gains received refused (Dropped InvalidId) = length (filter (λ a. not (has_ids a)) received)
lane_gains received refused (Dropped QueueFull) = refused
lane_gains received refused (Dropped NoMemory) = 0
lane_gains received refused (Dropped Evicted) = 0
lane_gains received refused (Dropped NotSampled) = 0
lane_gains received refused (Dropped LateNotSampled) = 0
lane_gains received refused (Dropped ExporterDown) = 0

-- what was gained was counted at each count, or with it a number passes
abbrev pub Tallied : (is_full : Bool) → (gained : Count → ℕ) → List ℕ → Type 0
Tallied true gained counted = Passes gained zeros
Tallied false gained counted = Gains gained zeros counted

-- what was received is numbered, and was tried at ports that were first these, and counted, unless a number would have
-- passed 2^64-1; where a push waits for room at each port, none was refused, and it waits there still
pub record Keeps (capacity number : ℕ) (first : List (EndState Item)) (is_full : Bool) (received : List Arrival) (ports : List (EndState Item)) (counted : List ℕ) : Type 0 where
  pub refused : ℕ
  pub numbered : AreNumbered number received
  pub tries : TriesOf capacity (λ (e : EndState Item). e.items) received first refused ports
  pub counts : Tallied is_full (lane_gains received refused) counted
  pub waiting : WaitAs true first → (refused ≡ 0) × WaitAs true ports

-- of all that is served of a lane with new numbers, which keeps doubles or discards them, something was received, and
-- it is kept so
abbrev pub IsReceived : {V : Type 0} → (serves : ℕ → V → LaneAt → V → LaneAt → Bool → Type 0) → (receives : ℕ → V → LaneAt → List Arrival → V → LaneAt → List Arrival → Bool → Type 0) → Type 0
IsReceived {V} serves receives = (keeps_doubles : Bool) (capacity number : ℕ) (ports : List (EndState Item)) (old new : V) (last : LaneAt) (is_full : Bool)
    → serves capacity old (lane_at (record { number = number; connected = 0; ports = ports; keeps_doubles = keeps_doubles }) zeros) new last is_full
    → (received : List Arrival) × receives capacity old (lane_at (record { number = number; connected = 0; ports = ports; keeps_doubles = keeps_doubles }) zeros) [] new last received is_full × Keeps capacity number ports is_full received last.lane.ports last.counted
