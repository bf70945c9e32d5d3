-- Two calm runs of one script agree, by induction over its instructions.
-- For the contracts of `calm_runs_agree` and `calm_scripts_agree`.
use Rattle.std.proofs.Common.{◌≡◌, ℕ, true, false, List, [], ◌∷◌, ◌++◌, length, map, Option, Some, None, refl, ap, sym, subst, ◌∙◌, inl, inr}
use Rattle.std.specs.List.{AllByRecursion}
use Rattle.std.specs.Io.KnownBytes.{Appends}
use Rattle.otlp_types.specs.declared.arrival.Arrival.{Arrival}
use Rattle.otlp_types.specs.declared.arrival.Item.{Item}
use Rattle.span_ids.specs.declared.outcome.Reason.{Reason}
use Rattle.span_ids.specs.declared.outcome.Reason.TheVariants.{InvalidId, QueueFull, NoMemory, Evicted, NotSampled, LateNotSampled, ExporterDown}
use Rattle.lane_queue.specs.Queues.{QueueState}
use Rattle.lane_seq.specs.declared.reply.Reply.{Reply}
use Rattle.lane_seq.specs.declared.reply.Reply.TheVariants.{Busy}
use Rattle.journal_theory.specs.Journal.{Settings}
use Rattle.span_sink.specs.LineSinks.{LineSinkState, up_state, TakesWhole, FailsInside}
use Rattle.span_exporter.specs.Batches.{records_in, LineIsUnique}
use Rattle.span_exporter.specs.Exports.{Sends, DropsBatch, WritesLine}
use Rattle.span_exporter.specs.declared.answer.Flushed.{Flushed}
use Rattle.span_exporter.specs.declared.answer.Flushed.TheVariants.{Handed, BatchDropped, Empty}
use Rattle.tsc_script.specs.Instructions.{Instruction, receive, tick, close}
use Rattle.script_run.specs.Connections.{connection_of}
use Rattle.script_run.specs.Requests.{BodyReading, reads, refuses, arrivals_of, reply_line}
use Rattle.script_run.specs.Counts.{number_reported}
use Rattle.script_run.specs.World.{ScriptWorld, Sizes, OutputEvent, replied, was_sent, RunsToQuiet, RepliesAndRuns, Answers, Receives, Plays, PlaysAll, new_world, after_reply, after_receiving, empty_queues}
use Rattle.script_run.specs.Writing.{Writes, WritesAll}
use Rattle.script_run.specs.Calm.{is_refusal, Calm}
use Rattle.script_run.specs.Laws.{CalmScriptsAgree, CalmRunsAgree}
use Rattle.script_run.proofs.Writing.{has_written}
use Rattle.script_run.proofs.Calm.{all_right, up_before_all, calm_reply, calm_before}
use Rattle.script_run.proofs.Agreeing.{rounds_same, all_handed, batches_same, pushes_same, reading_same}

-- ---- worlds that are the same but for the sink

-- the second world is the first but for its sink
abbrev pub IsSame : (a b : ScriptWorld) → Type 0
IsSame a b = b ≡ record a { sink = b.sink }

module _ (s : Settings) (sizes : Sizes) where
  -- runs from such worlds lead to such worlds
  runs_same : (old a b : ScriptWorld) (sink : LineSinkState) (rounds : List (List (List Item))) → RunsToQuiet s sizes old rounds a → RunsToQuiet s sizes (record old { sink = sink }) rounds b → Calm a → Calm b → IsSame a b
  runs_same old a b sink rounds h g c d =
      let took = rounds_same s old.journals old.askings rounds a.journals b.journals a.askings b.askings h.released g.released h.takes g.takes c.journals d.journals in
      let own : AllByRecursion (λ event. is_refusal event ≡ false) (old.events ++ map was_sent h.batches) = subst (AllByRecursion (λ event. is_refusal event ≡ false)) (ap (λ (z : ScriptWorld). z.events) h.becomes) c.events in
      let other : AllByRecursion (λ event. is_refusal event ≡ false) (old.events ++ map was_sent g.batches) = subst (AllByRecursion (λ event. is_refusal event ≡ false)) (ap (λ (z : ScriptWorld). z.events) g.becomes) d.events in
      let batches : h.batches ≡ g.batches = batches_same sizes.batch h.batches g.batches h.sends.are_batches g.sends.are_batches (h.sends.are_all ∙ (took.1 ∙ sym g.sends.are_all))
      (all_handed sizes.batch old.sink a.sink h.batches h.sends.are_batches h.sends.sends c.up (all_right (λ event. is_refusal event ≡ false) old.events (map was_sent h.batches) own))
      (all_handed sizes.batch sink b.sink g.batches g.sends.are_batches g.sends.sends d.up (all_right (λ event. is_refusal event ≡ false) old.events (map was_sent g.batches) other)) in
      let first : record old { journals = a.journals; askings = a.askings; events = old.events ++ map was_sent h.batches; sink = b.sink } ≡ record a { sink = b.sink } = ap (λ (z : ScriptWorld). let w : ScriptWorld = record z { sink = b.sink } in w) (sym h.becomes) in
      g.becomes ∙ ((λ i. record old { journals = sym took.0 i; askings = sym took.2 i; events = old.events ++ map was_sent (sym batches i); sink = b.sink }) ∙ first)

  -- so do a reply and a run
  replies_same : (old a b : ScriptWorld) (sink : LineSinkState) (reply : Reply) (rounds : List (List (List Item))) → RepliesAndRuns s sizes old reply rounds a → RepliesAndRuns s sizes (record old { sink = sink }) reply rounds b → Calm a → Calm b → IsSame a b
  replies_same old a b sink reply rounds h g c d = runs_same (after_reply reply h.0 old) a b g.0 rounds h.2 g.2 c d

  -- a calm run has no busy reply
  not_busy : (old a : ScriptWorld) (rounds : List (List (List Item))) → RepliesAndRuns s sizes old Busy rounds a → Calm a → ⊥
  not_busy old a rounds h c = let calm : is_refusal (replied Busy) ≡ false = calm_reply s sizes old a Busy rounds h c in cc calm

  -- a calm run took no body for a refusal as busy
  busy_answer : (old a : ScriptWorld) (number moment : ℕ) (reading : BodyReading) → Answers s sizes old number moment reading a → Calm a → reading ≡ refuses Busy → ⊥
  busy_answer old a number moment reading h c e = not_busy _ a [] (subst (λ (z : BodyReading). Answers s sizes old number moment z a) e h) c

  -- so do the answers to one reading
  answers_same : (old a b : ScriptWorld) (sink : LineSinkState) (number moment : ℕ) (reading : BodyReading) → Answers s sizes old number moment reading a → Answers s sizes (record old { sink = sink }) number moment reading b → Calm a → Calm b → IsSame a b
  answers_same old a b sink number moment (refuses reply) h g c d = replies_same _ a b sink reply [] h g c d
  answers_same old a b sink number moment (reads request) h g c d =
      let spans = arrivals_of (connection_of number old.contacts) moment request in
      let same = pushes_same spans (empty_queues sizes.queue (length old.journals)) h.0 g.0 h.1 g.1 h.2 g.2 in
      let after : ℕ → ScriptWorld = λ full. after_receiving number spans full old in
      let rounds : List (QueueState Item) → List (List (List Item)) = λ queues. map (λ (q : QueueState Item). q.items) queues ∷ [] in
      let one : RepliesAndRuns s sizes (after g.2.refused) h.0 (rounds h.1) a = subst (λ (n : ℕ). RepliesAndRuns s sizes (after n) h.0 (rounds h.1) a) same.numbers h.3 in
      let two : RepliesAndRuns s sizes (after g.2.refused) g.0 (rounds h.1) a = subst (λ (z : Reply). RepliesAndRuns s sizes (after g.2.refused) z (rounds h.1) a) same.replies one in
      let three : RepliesAndRuns s sizes (after g.2.refused) g.0 (rounds g.1) a = subst (λ (z : List (QueueState Item)). RepliesAndRuns s sizes (after g.2.refused) g.0 (rounds z) a) same.holds two in
      replies_same (after g.2.refused) a b sink g.0 (rounds g.1) three g.3 c d

  -- so do requests
  receives_same : (old a b : ScriptWorld) (sink : LineSinkState) (number moment : ℕ) (body : List ℕ) → Receives s sizes old number moment body a → Receives s sizes (record old { sink = sink }) number moment body b → Calm a → Calm b → IsSame a b
  receives_same old a b sink number moment body (inl h) g c d = absurd (not_busy old a [] h.1 c)
  receives_same old a b sink number moment body (inr h) (inl g) c d = absurd (not_busy (record old { sink = sink }) b [] g.1 d)
  receives_same old a b sink number moment body (inr h) (inr g) c d =
      let same : h.0 ≡ g.0 = reading_same sizes.keeps_doubles body h.0 g.0 h.1 g.1 (busy_answer old a number moment h.0 h.2 c) (busy_answer (record old { sink = sink }) b number moment g.0 g.2 d) in
      answers_same old a b sink number moment g.0 (subst (λ (z : BodyReading). Answers s sizes old number moment z a) same h.2) g.2 c d

  -- so does an instruction
  plays_same : (old a b : ScriptWorld) (sink : LineSinkState) (instruction : Instruction) → Plays s sizes old instruction a → Plays s sizes (record old { sink = sink }) instruction b → Calm a → Calm b → IsSame a b
  plays_same old a b sink (receive number moment body) h g c d = receives_same old a b sink number moment body h.2 g.2 c d
  plays_same old a b sink (tick moment) h g c d = runs_same old a b sink _ h.2 g.2 c d
  plays_same old a b sink close h g c d = runs_same (record old { closed = true }) a b sink _ h.1 g.1 c d

  -- so do instructions
  plays_all_same : (played : List Instruction) (old other a b : ScriptWorld) → IsSame old other → PlaysAll s sizes old played a → PlaysAll s sizes other played b → Calm a → Calm b → IsSame a b
  plays_all_same [] old other a b e h g c d =
      let at : b ≡ record old { sink = b.sink } = g ∙ (e ∙ ap (λ (z : ScriptWorld). let w : ScriptWorld = record old { sink = z.sink } in w) (sym g)) in
      at ∙ ap (λ (z : ScriptWorld). let w : ScriptWorld = record z { sink = b.sink } in w) (sym h)
  plays_all_same (instruction ∷ more) old other a b e h g c d =
      let one : Plays s sizes (record old { sink = other.sink }) instruction g.0 = subst (λ (z : ScriptWorld). Plays s sizes z instruction g.0) e g.1 in
      let same = plays_same old h.0 g.0 other.sink instruction h.1 one (calm_before s sizes more h.0 a h.2 c) (calm_before s sizes more g.0 b g.2 d) in
      plays_all_same more h.0 g.0 a b same h.2 g.2 c d

-- ---- the sink

-- known bytes of a sink that took a whole line are known
took_is : (bytes : List ℕ) (old new : LineSinkState) (line : List ℕ) → old.taken ≡ Some bytes → TakesWhole old line new → new ≡ up_state (Some (bytes ++ line)) old.failures
took_is bytes old new line e h = go new.taken refl (subst (λ (z : Option (List ℕ)). Appends z new.taken line) e h.bytes)
  where
    go : (o : Option (List ℕ)) → new.taken ≡ o → Appends (Some bytes) o line → new ≡ up_state (Some (bytes ++ line)) old.failures
    go None f g = absurd g
    go (Some ys) f g =
        let taken : new.taken ≡ Some (bytes ++ line) = f ∙ ap (λ (z : List ℕ). Some z) g in
        λ i. record { taken = taken i; failures = h.no_failure i; is_down = h.stays_up i }

-- two states are the same, and their bytes are known
abbrev IsKnown : (a b : LineSinkState) → Type 0
IsKnown a b = (a ≡ b) × ((bytes : List ℕ) × (a.taken ≡ Some bytes))

module _ (unique : LineIsUnique) (bytes : List ℕ) (old : LineSinkState) (known : old.taken ≡ Some bytes) (a b : LineSinkState) (up : a.is_down ≡ false) (other_up : b.is_down ≡ false) where
  -- both took the line
  both_took : (line : List ℕ) → TakesWhole old line a → TakesWhole old line b → IsKnown a b
  both_took line h g =
      let first = took_is bytes old a line known h in
      (first ∙ sym (took_is bytes old b line known g), (bytes ++ line, ap (λ (z : LineSinkState). z.taken) first))

  -- both stay as they were
  both_stay : a ≡ old → b ≡ old → IsKnown a b
  both_stay h g = (h ∙ sym g, (bytes, ap (λ (z : LineSinkState). z.taken) h ∙ known))

  -- a sink that is up has not failed
  no_failure : (new : LineSinkState) → new.is_down ≡ false → (line : List ℕ) → FailsInside old line new → ⊥
  no_failure new e line h = cc (e, h.goes_down)

  -- a sink that is up was not down
  no_change : (new : LineSinkState) → new.is_down ≡ false → old.is_down ≡ true → new ≡ old → ⊥
  no_change new e down h = let both : false ≡ true = sym e ∙ (ap (λ (z : LineSinkState). z.is_down) h ∙ down) in cc both

  -- a sink that is up took its line whole
  whole_line : (new : LineSinkState) → new.is_down ≡ false → (line : List ℕ) → WritesLine old line new → TakesWhole old line new
  whole_line new e line (inl h) = h
  whole_line new e line (inr (inl h)) = absurd (no_failure new e line h)
  whole_line new e line (inr (inr h)) = absurd (no_change new e h.0 h.1)

  -- a batch that was given up leaves the same
  drops_batch_same : (reason : Reason) (batch : List Arrival) → DropsBatch reason old batch a → DropsBatch reason old batch b → IsKnown a b
  drops_batch_same NoMemory batch h g = both_stay h.1 g.1
  drops_batch_same ExporterDown batch (inl h) g = absurd (no_failure a up h.0 h.2)
  drops_batch_same ExporterDown batch (inr h) g = absurd (no_change a up h.0 h.1)
  drops_batch_same InvalidId batch h g = absurd h
  drops_batch_same QueueFull batch h g = absurd h
  drops_batch_same Evicted batch h g = absurd h
  drops_batch_same NotSampled batch h g = absurd h
  drops_batch_same LateNotSampled batch h g = absurd h

  -- a batch that was sent leaves the same
  sends_same : (batch : List Arrival) (flushed : Flushed) → Sends old batch flushed a → Sends old batch flushed b → IsKnown a b
  sends_same batch Empty h g = both_stay h.1 g.1
  sends_same batch (Handed n) h g = both_took g.2.0 (subst (λ (line : List ℕ). TakesWhole old line a) (unique (records_in batch) h.2.0 g.2.0 h.2.1 g.2.1) h.2.2) g.2.2
  sends_same batch (BatchDropped n reason) h g = drops_batch_same reason batch h.2 g.2

  -- one event leaves the same of a sink that is up
  writes_same : (event : OutputEvent) → Writes old event a → Writes old event b → IsKnown a b
  writes_same (replied reply) h g = both_took (reply_line reply) (whole_line a up (reply_line reply) h) (whole_line b other_up (reply_line reply) g)
  writes_same (was_sent sent) h g = sends_same sent.batch sent.flushed h g

-- so do several
all_writes_same : LineIsUnique → (events : List OutputEvent) (bytes : List ℕ) (old a b : LineSinkState) → old.taken ≡ Some bytes → a.is_down ≡ false → b.is_down ≡ false → WritesAll old events a → WritesAll old events b → a ≡ b
all_writes_same unique [] bytes old a b known up other_up h g = h ∙ sym g
all_writes_same unique (event ∷ more) bytes old a b known up other_up h g =
    let one = writes_same unique bytes old known h.0 g.0 (up_before_all more h.0 a up h.2) (up_before_all more g.0 b other_up g.2) event h.1 g.1 in
    all_writes_same unique more one.1.0 h.0 a b one.1.1 up other_up h.2 (subst (λ (z : LineSinkState). WritesAll z more b) (sym one.0) g.2)

-- the law, where records have one line
pub calm_runs_agree : LineIsUnique → CalmRunsAgree
calm_runs_agree unique s sizes lanes shards first played a b h g c d =
    let new = new_world lanes shards first in
    let same : IsSame a b = plays_all_same s sizes played new new a b refl h g c d in
    let events : b.events ≡ a.events = ap (λ (z : ScriptWorld). z.events) same in
    let was_up : first.is_down ≡ false = (calm_before s sizes played new a h c).up in
    record {
      contacts = ap (λ (z : ScriptWorld). z.contacts) (sym same);
      received = ap (λ (z : ScriptWorld). z.received) (sym same);
      full = ap (λ (z : ScriptWorld). z.full) (sym same);
      journals = ap (λ (z : ScriptWorld). z.journals) (sym same);
      askings = ap (λ (z : ScriptWorld). z.askings) (sym same);
      events = sym events;
      closed = ap (λ (z : ScriptWorld). z.closed) (sym same);
      counts = λ count. ap (λ (z : ScriptWorld). number_reported s z count) (sym same);
      sink = λ bytes known. all_writes_same unique a.events bytes first a.sink b.sink known c.up d.up (has_written s sizes first played lanes shards a was_up h).0
          (subst (λ (z : List OutputEvent). WritesAll first z b.sink) events (has_written s sizes first played lanes shards b was_up g).0);
    }

-- a script's bytes say one list of instructions
pub scripts_agree : CalmRunsAgree → CalmScriptsAgree
scripts_agree agree s sizes lanes shards first script m n a b says says_too h g c d =
    let same : n ≡ m = let e = sym says_too ∙ says in cc e in
    agree s sizes lanes shards first m a b h (subst (λ (z : List Instruction). PlaysAll s sizes (new_world lanes shards first) z b) same g) c d
