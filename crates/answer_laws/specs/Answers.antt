-- What becomes of the spans of a request that is answered 200, where lanes serve many connections at once.
use Rattle.std.specs.Prelude.{◌≡◌, ◌⊎◌, ℕ, ◌<◌, Bool, List, [], ◌∷◌, ◌++◌, length, filter, Contains}
use Rattle.span_ids.specs.declared.keys.ConnKey.{ConnKey}
use Rattle.span_ids.specs.declared.outcome.Reason.{Reason}
use Rattle.span_ids.specs.declared.outcome.Reason.TheVariants.{InvalidId, QueueFull}
use Rattle.otlp_types.specs.declared.request.Request.{Request}
use Rattle.otlp_types.specs.declared.arrival.Arrival.{Arrival}
use Rattle.otlp_request.specs.Reads.{Reads}
use Rattle.otlp_flatten.specs.Flat.{records_of}
use Rattle.otlp_reply.specs.Bodies.{status_of}
use Rattle.lane_seq.specs.Numbers.{arrivals_from, is_invalid}
use Rattle.lane_seq.specs.Replies.{IsReplyTo}
use Rattle.http_text.specs.declared.allowed.Allowed.{Allowed}
use Rattle.http_lane.specs.Connection.{Submission, submissions}
use Rattle.http_lane.specs.Turns.{Turned}
use Rattle.lane_turns.specs.Acts.{Act, had}
use Rattle.lane_turns.specs.declared.serving.Next.{Next}
use Rattle.lane_turns.specs.declared.serving.Done.{Done}
use Rattle.world_theory.specs.World.{CoreConfig, World}
use Rattle.world_theory.specs.Places.{handed, counted_under, places}
use Rattle.core_laws.specs.Untaken.{is_counted_as}
use Rattle.span_weave.specs.Threads.{Threads, ExporterMade, Meets}
use Rattle.span_weave.specs.Woven.{HoldsOfThreads}
use Rattle.run_weave.specs.Received.{receives_by_turns}
use Rattle.run_weave.specs.Ran.{LaneRan}

-- a request that the lane took for one of its connections, in a turn that is among these acts
pub record TakenRequest (acts : List Act) : Type 0 where
  pub earlier : List Act
  pub ordinal : ℕ
  pub before : ℕ
  pub after : ℕ
  pub turn : Turned
  pub later : List Act
  pub acts_are : acts ≡ earlier ++ had ordinal before after turn ∷ later
  pub sooner : List Submission
  pub request : Submission
  pub rest : List Submission
  pub requests_are : submissions turn.events ≡ sooner ++ request ∷ rest

-- the spans of a request: its body was read in its encoding, and they have numbers of its connection, in order
pub record AreSpansOf (keeps_doubles : Bool) (connection : ConnKey) (s : Submission) (spans : List Arrival) : Type 0 where
  pub request : Request
  pub reads : Reads s.encoding keeps_doubles s.body request
  pub number : ℕ
  pub are : spans ≡ arrivals_from connection number s.moment (records_of request)

-- the span was handed over, once, or is counted once under one reason
abbrev pub HasItsEnd : CoreConfig → World → Arrival → Type 0
HasItsEnd c w a = (places c w a.key ≡ handed ∷ []) ⊎ ((reason : Reason) × (places c w a.key ≡ counted_under reason ∷ []))

-- Each span of the request has its end. Those that are counted for their ids are those whose ids are invalid. And the
-- reply tells how many of them are counted for their ids, and how many for a full queue.
pub record Binds (c : CoreConfig) (w : World) (keeps_doubles : Bool) (connection : ConnKey) (s : Submission) : Type 0 where
  pub spans : List Arrival
  pub of_request : AreSpansOf keeps_doubles connection s spans
  pub each : (a : Arrival) → Contains spans a → HasItsEnd c w a
  pub invalid : filter (is_counted_as c w InvalidId) spans ≡ filter is_invalid spans
  pub told : IsReplyTo (length spans) (length (filter (is_counted_as c w InvalidId) spans)) (length (filter (is_counted_as c w QueueFull) spans)) s.reply

-- An answer 200 binds: in a run of threads, for each lane, whatever its driver said, and each request that it answered
-- so. What a run has of its threads (`Meets`), its lanes (`LaneRan`) and the core (`HoldsOfThreads`) is what `serve_on`
-- of `collector_serve` promises.
abbrev pub AnswersBind : {V D : Type 0} → (allowed_of : V → Allowed) → (driver_of : V → D) → (asks : D → Next → ℕ → List ℕ → D → Type 0) → (hears : D → Done → List ℕ → D → Type 0) → Type 0
AnswersBind {V} {D} allowed_of driver_of asks hears = (c : CoreConfig) (lanes shards : ℕ) (t : Threads) (end : ExporterMade) → Meets c lanes shards t end → (h : HoldsOfThreads c lanes shards t end)
    → (keeps_doubles : Bool) (capacity lane : ℕ) (server : V) (is_full : Bool) → lane < lanes
    → (ran : LaneRan (receives_by_turns allowed_of driver_of asks hears) keeps_doubles capacity lane shards server (t.received lane) (t.tries lane) is_full)
    → (r : TakenRequest ran.came.0.acts) → status_of r.request.reply ≡ 200 → Binds c h.woven.after keeps_doubles (record { lane = lane; ordinal = r.ordinal }) r.request
