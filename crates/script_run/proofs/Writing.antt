-- The sink has the lines of the events, by induction over a script.
-- For the contract of `writes_its_events`.
use Rattle.std.proofs.Common.{◌≡◌, ℕ, ◌+◌, Bool, false, cond, List, [], ◌∷◌, ◌++◌, map, refl, ap, sym, subst, ◌∙◌, arith, ◌⊎◌, inl, inr, ⊎_elim}
use Rattle.otlp_types.specs.declared.arrival.Arrival.{Arrival}
use Rattle.journal_theory.specs.Journal.{Settings}
use Rattle.span_ids.specs.declared.outcome.Reason.{Reason}
use Rattle.span_ids.specs.declared.outcome.Reason.TheVariants.{InvalidId, QueueFull, NoMemory, Evicted, NotSampled, LateNotSampled, ExporterDown}
use Rattle.span_sink.specs.LineSinks.{LineSinkState, TakesWhole, FailsInside}
use Rattle.span_exporter.specs.Exports.{Sends, DropsBatch, WritesLine}
use Rattle.span_exporter.specs.declared.answer.Flushed.{Flushed}
use Rattle.span_exporter.specs.declared.answer.Flushed.TheVariants.{Handed, BatchDropped, Empty}
use Rattle.lane_seq.specs.declared.reply.Reply.{Reply}
use Rattle.tsc_script.specs.Instructions.{Instruction, receive, tick, close}
use Rattle.otlp_types.specs.declared.arrival.Item.{Item}
use Rattle.script_run.specs.Requests.{BodyReading, reads, refuses, reply_line}
use Rattle.script_run.specs.Sending.{SentBatch, SendsAll}
use Rattle.script_run.specs.World.{ScriptWorld, Sizes, OutputEvent, replied, was_sent, RunsToQuiet, RepliesAndRuns, Answers, Plays, PlaysAll, new_world}
use Rattle.script_run.specs.Writing.{Writes, WritesAll, FailedOnce}
use Rattle.script_run.specs.Laws.{EachWritesItsEvents}

-- events and then more of them
pub writes_append : (events more : List OutputEvent) (old mid new : LineSinkState) → WritesAll old events mid → WritesAll mid more new → WritesAll old (events ++ more) new
writes_append [] more old mid new w v = subst (λ (z : LineSinkState). WritesAll z more new) w v
writes_append (event ∷ events) more old mid new w v = (w.0, w.1, writes_append events more w.0 mid new w.2 v)

-- the batches that were sent are events
pub sends_writes : (batches : List SentBatch) (old new : LineSinkState) → SendsAll old batches new → WritesAll old (map was_sent batches) new
sends_writes [] old new w = w
sends_writes (one ∷ more) old new w = (w.0, w.1, sends_writes more w.0 new w.2)

-- ---- failures

-- a batch that is given up leaves the sink as it was, or a write of its line failed
pub drops_batch : (reason : Reason) (batch : List Arrival) (old new : LineSinkState) → DropsBatch reason old batch new → ((line : List ℕ) × FailsInside old line new) ⊎ (new ≡ old)
drops_batch NoMemory batch old new h = inr h.1
drops_batch ExporterDown batch old new (inl h) = inl (h.0, h.2)
drops_batch ExporterDown batch old new (inr h) = inr h.1
drops_batch InvalidId batch old new h = absurd h
drops_batch QueueFull batch old new h = absurd h
drops_batch Evicted batch old new h = absurd h
drops_batch NotSampled batch old new h = absurd h
drops_batch LateNotSampled batch old new h = absurd h

module _ (first old new : LineSinkState) (f : FailedOnce first old) where
  -- a line that was taken whole keeps it
  took : (line : List ℕ) → TakesWhole old line new → FailedOnce first new
  took line h = h.no_failure ∙ (f ∙ ap (λ (b : Bool). first.failures + cond {A = ℕ} b 1 0) (h.was_up ∙ sym h.stays_up))

  -- a write that failed keeps it
  failed : (line : List ℕ) → FailsInside old line new → FailedOnce first new
  failed line h =
      let before : old.failures ≡ first.failures + 0 = f ∙ ap (λ (b : Bool). first.failures + cond {A = ℕ} b 1 0) h.was_up in
      let after : first.failures + 1 ≡ first.failures + cond {A = ℕ} new.is_down 1 0 = ap (λ (b : Bool). first.failures + cond {A = ℕ} b 1 0) (sym h.goes_down) in
      omega (arith, before, after, h.one_failure)

  -- where nothing was written it is kept
  stayed : new ≡ old → FailedOnce first new
  stayed e = subst (λ (z : LineSinkState). FailedOnce first z) (sym e) f

  -- a batch that was given up keeps it
  batch_dropped : (reason : Reason) (batch : List Arrival) → DropsBatch reason old batch new → FailedOnce first new
  batch_dropped reason batch h = ⊎_elim (λ (x : (line : List ℕ) × FailsInside old line new). failed x.0 x.1) (λ (e : new ≡ old). stayed e) (drops_batch reason batch old new h)

  -- a batch that was sent keeps it
  sent : (batch : List Arrival) (flushed : Flushed) → Sends old batch flushed new → FailedOnce first new
  sent batch Empty h = stayed h.1
  sent batch (Handed n) h = took h.2.0 h.2.2
  sent batch (BatchDropped n reason) h = batch_dropped reason batch h.2

  -- a line that is no batch keeps it
  lined : (line : List ℕ) → WritesLine old line new → FailedOnce first new
  lined line (inl h) = took line h
  lined line (inr (inl h)) = failed line h
  lined line (inr (inr h)) = stayed h.1

  -- an event keeps it that the sink has failed once where it is down
  pub failed_once : (event : OutputEvent) → Writes old event new → FailedOnce first new
  failed_once (replied reply) h = lined (reply_line reply) h
  failed_once (was_sent batch) h = sent batch.batch batch.flushed h

-- several events keep it
pub all_failed_once : (first : LineSinkState) (events : List OutputEvent) (old new : LineSinkState) → WritesAll old events new → FailedOnce first old → FailedOnce first new
all_failed_once first [] old new w f = subst (λ (z : LineSinkState). FailedOnce first z) (sym w) f
all_failed_once first (event ∷ more) old new w f = all_failed_once first more w.0 new w.2 (failed_once first old w.0 f event w.1)

-- ---- a world whose sink has the lines of its events

-- the sink has the lines of the events
abbrev pub HasWritten : (first : LineSinkState) → ScriptWorld → Type 0
HasWritten first w = WritesAll first w.events w.sink × FailedOnce first w.sink

-- further events were written
further : (first : LineSinkState) (old new : ScriptWorld) (more : List OutputEvent) → HasWritten first old → WritesAll old.sink more new.sink → new.events ≡ old.events ++ more → HasWritten first new
further first old new more h w e = (
  subst (λ (z : List OutputEvent). WritesAll first z new.sink) (sym e) (writes_append old.events more first old.sink new.sink h.0 w),
  all_failed_once first more old.sink new.sink w h.1,
)

module _ (s : Settings) (sizes : Sizes) (first : LineSinkState) where
  -- the batches of a run were written
  runs : (old new : ScriptWorld) (rounds : List (List (List Item))) → HasWritten first old → RunsToQuiet s sizes old rounds new → HasWritten first new
  runs old new rounds h r = further first old new (map was_sent r.batches) h (sends_writes r.batches old.sink new.sink r.sends.sends) (ap (λ (z : ScriptWorld). z.events) r.becomes)

  -- a reply was written, and then the batches of a run
  replies : (old new : ScriptWorld) (reply : Reply) (rounds : List (List (List Item))) → HasWritten first old → RepliesAndRuns s sizes old reply rounds new → HasWritten first new
  replies old new reply rounds h r =
      let after : ScriptWorld = record old { events = old.events ++ replied reply ∷ []; sink = r.0 } in
      runs after new rounds (further first old after (replied reply ∷ []) h (r.0, r.1, refl) refl) r.2

  -- so it is for each reading of a request
  answers : (old new : ScriptWorld) (number moment : ℕ) (reading : BodyReading) → HasWritten first old → Answers s sizes old number moment reading new → HasWritten first new
  answers old new number moment (refuses reply) h r = replies _ new reply _ h r
  answers old new number moment (reads request) h r = replies _ new r.0 _ h r.3

  -- so it is for each instruction
  plays : (old new : ScriptWorld) (instruction : Instruction) → HasWritten first old → Plays s sizes old instruction new → HasWritten first new
  plays old new (receive number moment body) h (is_open, up, inl r) = replies old new _ [] h r.1
  plays old new (receive number moment body) h (is_open, up, inr r) = answers old new number moment r.0 h r.2
  plays old new (tick moment) h r = runs old new _ h r.2
  plays old new close h r = runs _ new _ h r.1

  -- so it is for instructions in turn
  plays_all : (played : List Instruction) (old new : ScriptWorld) → HasWritten first old → PlaysAll s sizes old played new → HasWritten first new
  plays_all [] old new h r = subst (λ (z : ScriptWorld). HasWritten first z) (sym r) h
  plays_all (instruction ∷ more) old new h r = plays_all more r.0 new (plays old r.0 instruction h r.1) r.2

-- what is played from the new world writes its events
pub has_written : (s : Settings) (sizes : Sizes) (first : LineSinkState) (played : List Instruction) (lanes shards : ℕ) (after : ScriptWorld) → first.is_down ≡ false → PlaysAll s sizes (new_world lanes shards first) played after → HasWritten first after
has_written s sizes first played lanes shards after up r =
    let start : FailedOnce first first = subst (λ (b : Bool). first.failures ≡ first.failures + cond {A = ℕ} b 1 0) (sym up) (omega arith) in
    plays_all s sizes first played (new_world lanes shards first) after (refl, start) r

-- the law
pub each_writes_its_events : EachWritesItsEvents
each_writes_its_events s sizes lanes shards first played after can up r = has_written s sizes first played lanes shards after up r
