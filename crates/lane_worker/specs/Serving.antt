-- What a lane's thread did: the connections that its acceptor gave were served, one after the other; or many at once,
-- turn by turn.
use Rattle.std.specs.Prelude.{◌≡◌, ◌⊎◌, ℕ, ◌-◌, ◌^◌, ◌<◌, Bool, true, false, MatchBool, List, [], ◌∷◌, Option, Some, None}
use Rattle.otlp_types.specs.declared.arrival.Item.{Item}
use Rattle.otlp_types.specs.declared.arrival.Item.TheVariants.{End}
use Rattle.lane_queue.specs.Ends.{EndState, with_item, TakesItem, IsRefused}
use Rattle.lane_seq.specs.Pushes.{LaneState}
use Rattle.lane_seq.specs.declared.preparing.Conn.{Conn}
use Rattle.http_text.specs.declared.allowed.Allowed.{Allowed}
use Rattle.http_lane.specs.declared.answer.ServeEnd.{ServeEnd}
use Rattle.http_lane.specs.declared.answer.ServeEnd.TheVariants.{CounterOverflow}
use Rattle.http_lane.specs.Engine.{KnownReader, Served}
use Rattle.http_lane.specs.Intake.{Submits, intake, first_conn, connected}
use Rattle.lane_turns.specs.Acts.{LaneNow, lane_now, ServesTurns}
use Rattle.lane_turns.specs.Driven.{IsDriven}
use Rattle.lane_turns.specs.declared.serving.Next.{Next}
use Rattle.lane_turns.specs.declared.serving.Done.{Done}

-- what was known of a connection's reader and writer when the acceptor gave it
pub record Connection : Type 0 where
  pub reader : KnownReader
  pub written : Option (List ℕ)

abbrev pub connection : KnownReader → Option (List ℕ) → Connection
connection reader written = record { reader = reader; written = written }

-- a lane between threads, and what it counted
abbrev pub LaneAt : Type 0
LaneAt = LaneNow (EndState Item)

abbrev pub lane_at : LaneState (EndState Item) → List ℕ → LaneAt
lane_at lane counted = lane_now lane counted

-- the connection ended because a count would have passed 2^64-1
abbrev pub is_overflow : ServeEnd → Bool
is_overflow CounterOverflow = true
is_overflow _ = false

-- the connection was the lane's next one; it was served as some transcript says, and ended so
abbrev pub ServedOne : (capacity : ℕ) → Connection → (old new : LaneAt) → ServeEnd → Type 0
ServedOne capacity c old new end = (conn : Conn) × (reader : KnownReader) × (written : Option (List ℕ))
    × Served (Submits (TakesItem capacity) (IsRefused capacity)) c.written written (intake (connected old.lane) (first_conn old.lane) old.counted) (intake new.lane conn new.counted) c.reader reader end

module _ {F X : Type 0} (gives : F → Option X → F → Type 0) (known : X → Connection) (capacity : ℕ) where
  -- the acceptor was asked no more: it gave nothing, or it had given 2^64-1 connections
  abbrev pub Exhausts : (old : F) → (before : LaneAt) → (new : F) → Type 0
  Exhausts old before new = gives old None new ⊎ ((before.lane.connected ≡ 2 ^ 64 - 1) × (new ≡ old))

  -- the acceptor gave these connections, one after the other, and each was served; it was asked until it gave nothing,
  -- unless a count would have passed 2^64-1
  abbrev pub ServesAll : List X → (old : F) → (before : LaneAt) → (new : F) → (after : LaneAt) → (is_full : Bool) → Type 0
  ServesAll [] old before new after is_full = Exhausts old before new × (after ≡ before) × (is_full ≡ false)
  ServesAll (x ∷ rest) old before new after is_full = (acceptor : F) × (lane : LaneAt) × (end : ServeEnd)
      × gives old (Some x) acceptor × ServedOne capacity (known x) before lane end
      × MatchBool (is_overflow end) ((rest ≡ []) × (new ≡ acceptor) × (after ≡ lane) × (is_full ≡ true)) (ServesAll rest acceptor lane new after is_full)

  -- there are connections of which that is so
  abbrev pub HasServed : (old : F) → (before : LaneAt) → (new : F) → (after : LaneAt) → (is_full : Bool) → Type 0
  HasServed old before new after is_full = (given : List X) × ServesAll given old before new after is_full

module _ {D : Type 0} (asks : D → Next → ℕ → List ℕ → D → Type 0) (hears : D → Done → List ℕ → D → Type 0) (allowed : Allowed) (capacity : ℕ) where
  -- many connections were served at once, turn by turn, by a lane whose queues may hold this number of items; and
  -- round by round the lane did what its driver said
  abbrev pub ServesMany : (driver : D) → (before : LaneAt) → (last : D) → (after : LaneAt) → (is_full : Bool) → Type 0
  ServesMany driver before last after is_full =
      ServesTurns (Submits (TakesItem capacity) (IsRefused capacity)) allowed before after is_full
      × IsDriven asks hears (Submits (TakesItem capacity) (IsRefused capacity)) allowed driver before last after is_full

-- the end after an End of this number was pushed there
abbrev pub with_end : (number : ℕ) → EndState Item → EndState Item
with_end number end = with_item end (End number)
