-- What a lane did for one of its connections, among all that it served in between; and when two connections did alike.
use Rattle.std.specs.Prelude.{◌≡◌, ◌⊎◌, ℕ, ◌<◌, ◌≤◌, ◌==◌, Bool, true, false, if◌then◌else◌, List, [], ◌∷◌, ◌++◌, flat_map, Option, Some, None}
use Rattle.drop_ledger.specs.Places.{Addition}
use Rattle.http_text.specs.declared.allowed.Allowed.{Allowed}
use Rattle.otlp_types.specs.declared.arrival.Item.{Item}
use Rattle.http_lane.specs.declared.answer.ServeEnd.{ServeEnd}
use Rattle.http_lane.specs.declared.answer.ServeEnd.TheVariants.{Closed, Cut, Quiet, ReadFault, WriteFault, NoMemory}
use Rattle.http_lane.specs.declared.turns.Exchange.{Exchange}
use Rattle.http_lane.specs.Connection.{RequestReading, in_head, is_between, timed_out, ConnectionEvent, Settles, Submission, submissions, text_of_all}
use Rattle.http_lane.specs.Intake.{Submits}
use Rattle.lane_seq.specs.Counting.{additions_of}
use Rattle.http_lane.specs.Agreement.{AgreeAsFar}
use Rattle.http_lane.specs.Turns.{Coming, came, unkept, nothing, over, read_failed, write_failed, dismissed, Waiting, came_at, Turned, Turns}
use Rattle.http_lane.specs.TurnAgreement.{bytes_that_came, events_then}
use Rattle.lane_turns.specs.Acts.{Act, took, had, LaneNow, Fits}

-- the turns that one connection had, in their order; others had theirs in between
abbrev pub turns_had : (ordinal : ℕ) → List Act → List Turned
turns_had ordinal [] = []
turns_had ordinal (took j moment ∷ acts) = turns_had ordinal acts
turns_had ordinal (had j before after t ∷ acts) = if j == ordinal then t ∷ turns_had ordinal acts else turns_had ordinal acts

abbrev pub brought_bytes : Coming → Bool
brought_bytes (came bytes) = true
brought_bytes _ = false

-- what was done for the bytes that came, turn by turn
abbrev pub done_for_bytes : List Turned → List ConnectionEvent
done_for_bytes turns = flat_map (λ (t : Turned). if brought_bytes t.coming then t.events else []) turns

abbrev pub last_brought_bytes : List Turned → Bool
last_brought_bytes [] = false
last_brought_bytes (t ∷ []) = brought_bytes t.coming
last_brought_bytes (t ∷ next ∷ turns) = last_brought_bytes (next ∷ turns)

-- how its bytes ended the connection, if they did; and not the clock, the stop mark, want of a buffer or its socket
abbrev pub end_by_bytes : List Turned → Waiting → Option ServeEnd
end_by_bytes turns last = if last_brought_bytes turns then last.end else None

-- nothing, or the answer to a request that took too long
abbrev pub IsTimedOut : List ConnectionEvent → Type 0
IsTimedOut events = (events ≡ []) ⊎ ((e : ConnectionEvent) × (events ≡ e ∷ []) × (e.cause ≡ timed_out))

-- what a turn brought that ends a connection, whatever its bytes were
abbrev pub EndsIt : Coming → Type 0
EndsIt (came bytes) = ⊥
EndsIt nothing = ⊥
EndsIt _ = Unit {0}

abbrev pub last_coming : List Turned → Option Coming
last_coming [] = None
last_coming (t ∷ []) = Some t.coming
last_coming (t ∷ next ∷ turns) = last_coming (next ∷ turns)

-- how it ends then
abbrev pub end_for : Coming → RequestReading → Option ServeEnd
end_for (came bytes) reading = None
end_for (unkept bytes) reading = Some NoMemory
end_for nothing reading = None
end_for over reading = Some (if is_between reading then Closed else Cut)
end_for read_failed reading = Some ReadFault
end_for write_failed reading = Some WriteFault
end_for dismissed reading = Some Quiet

-- What was done for the bytes is what one read of them all brings, and led to this reading. What was done beside is at
-- most an answer to a request that took too long, at the end. What else ended the connection did so by the reading.
pub record InOnePiece (allowed : Allowed) (turns : List Turned) (last : Waiting) : Type 0 where
  pub reading : RequestReading
  pub settles : Settles (in_head allowed (bytes_that_came turns)) (done_for_bytes turns) (end_by_bytes turns last) reading
  pub reads_on : last.end ≡ None → last.reading ≡ reading
  pub late : List ConnectionEvent
  pub all : events_then turns ≡ done_for_bytes turns ++ late
  pub is_late : IsTimedOut late
  pub ended : (coming : Coming) → EndsIt coming → last_coming turns ≡ Some coming → last.end ≡ end_for coming reading

-- a connection that a lane took and served among others, up to some act
pub record LaneConnection {P : Type 0} (takes : P → Item → P → Type 0) (refuses : P → P → Type 0) (allowed : Allowed) (keeps_doubles : Bool) : Type 0 where
  pub number : ℕ
  pub first : LaneNow P
  pub open_at : (key : ℕ) → Option Exchange
  pub acts : List Act
  pub now : LaneNow P
  pub fits : Fits (Submits takes refuses) allowed number first open_at acts now
  pub keeps : first.lane.keeps_doubles ≡ keeps_doubles
  pub ordinal : ℕ
  pub not_before : first.lane.connected ≤ ordinal
  pub taken : ordinal < now.lane.connected

-- the turns of the connection are a run of it by the clock
pub record ServedByTurns (allowed : Allowed) (turns : List Turned) : Type 0 where
  pub moment : ℕ
  pub last : Waiting
  pub run : Turns (came_at allowed moment) turns last

-- what these events add to the counts
abbrev pub counted_for : List ConnectionEvent → List Addition
counted_for events = flat_map (λ (s : Submission). additions_of s.reply) (submissions events)

-- the same requests were answered alike, with the same counts, and ended alike
pub record DidAlike (a b : List Turned) (s t : Waiting) : Type 0 where
  pub events : done_for_bytes a ≡ done_for_bytes b
  pub submitted : submissions (done_for_bytes a) ≡ submissions (done_for_bytes b)
  pub answers : text_of_all (done_for_bytes a) ≡ text_of_all (done_for_bytes b)
  pub counts : counted_for (done_for_bytes a) ≡ counted_for (done_for_bytes b)
  pub end : end_by_bytes a s ≡ end_by_bytes b t
  pub ended : (coming : Coming) → EndsIt coming → last_coming a ≡ Some coming → last_coming b ≡ Some coming → s.end ≡ t.end

-- each connection that a lane took was served turn by turn
abbrev pub AreServedByTurns : {P : Type 0} → (takes : P → Item → P → Type 0) → (refuses : P → P → Type 0) → Type 0
AreServedByTurns {P} takes refuses = (allowed : Allowed) (keeps_doubles : Bool) (c : LaneConnection takes refuses allowed keeps_doubles) → ServedByTurns allowed (turns_had c.ordinal c.acts)

-- In whatever turns the bytes of a connection came, and whenever, what was done for them is what one read of them all
-- brings.
abbrev pub TurnsAreOnePiece : Type 0
TurnsAreOnePiece = (allowed : Allowed) (turns : List Turned) (s : ServedByTurns allowed turns) → InOnePiece allowed turns s.last

-- Two connections, of one lane or of two, that are given the same bytes, and for them the same answers of memory, stop
-- mark, clock, ports, counter and writer, did alike: in whatever turns the bytes came, and whatever other connections
-- had in between.
abbrev pub BytesDecide : {P Q : Type 0} → (takes : P → Item → P → Type 0) → (refuses : P → P → Type 0)
    → (its_takes : Q → Item → Q → Type 0) → (its_refuses : Q → Q → Type 0) → Type 0
BytesDecide {P} {Q} takes refuses its_takes its_refuses = (allowed : Allowed) (keeps_doubles : Bool)
    (c : LaneConnection takes refuses allowed keeps_doubles) (d : LaneConnection its_takes its_refuses allowed keeps_doubles)
    → (s : ServedByTurns allowed (turns_had c.ordinal c.acts)) → (t : ServedByTurns allowed (turns_had d.ordinal d.acts))
    → bytes_that_came (turns_had c.ordinal c.acts) ≡ bytes_that_came (turns_had d.ordinal d.acts)
    → AgreeAsFar (done_for_bytes (turns_had c.ordinal c.acts)) (done_for_bytes (turns_had d.ordinal d.acts))
    → DidAlike (turns_had c.ordinal c.acts) (turns_had d.ordinal d.acts) s.last t.last
