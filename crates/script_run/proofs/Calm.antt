-- What was calm at the end was calm before.
-- For the contracts of `calm_runs_agree` and `calm_scripts_agree`.
use Rattle.std.proofs.Common.{◌≡◌, ℕ, true, false, List, [], ◌∷◌, ◌++◌, map, refl, ap, sym, subst, ◌∙◌, inl, inr, ⊎_elim}
use Rattle.std.specs.List.{AllByRecursion}
use Rattle.otlp_types.specs.declared.arrival.Arrival.{Arrival}
use Rattle.otlp_types.specs.declared.arrival.Item.{Item}
use Rattle.span_ids.specs.declared.outcome.Reason.{Reason}
use Rattle.rate_budget.specs.Grant.{Asking}
use Rattle.journal_theory.specs.Journal.{Settings, Journal}
use Rattle.span_sink.specs.LineSinks.{LineSinkState, FailsInside}
use Rattle.span_exporter.specs.Exports.{Sends, DropsBatch, WritesLine}
use Rattle.span_exporter.specs.declared.answer.Flushed.{Flushed}
use Rattle.span_exporter.specs.declared.answer.Flushed.TheVariants.{Handed, BatchDropped, Empty}
use Rattle.lane_seq.specs.declared.reply.Reply.{Reply}
use Rattle.lane_seq.specs.declared.reply.Reply.TheVariants.{Busy}
use Rattle.tsc_script.specs.Instructions.{Instruction, receive, tick, close}
use Rattle.script_run.specs.Requests.{BodyReading, reads, refuses, reply_line}
use Rattle.script_run.specs.World.{ScriptWorld, Sizes, OutputEvent, replied, was_sent, ShardTurn, with_entry, Takes, TakesEach, TakesRounds, RunsToQuiet, RepliesAndRuns, Answers, Plays, PlaysAll, after_reply, entry_of}
use Rattle.script_run.specs.Writing.{Writes, WritesAll}
use Rattle.script_run.specs.Calm.{is_refusal, is_marked, IsUnmarked, Calm}
use Rattle.script_run.proofs.Writing.{sends_writes, drops_batch}

-- what holds of each of these and more holds of these, and of the others
pub all_left : {X : Type 0} (P : X → Type 0) (xs ys : List X) → AllByRecursion P (xs ++ ys) → AllByRecursion P xs
all_left P [] ys h = tt
all_left P (x ∷ xs) ys h = (h.0, all_left P xs ys h.1)

-- what holds of each of these and of each of more holds of each of the latter
pub all_right : {X : Type 0} (P : X → Type 0) (xs ys : List X) → AllByRecursion P (xs ++ ys) → AllByRecursion P ys
all_right P [] ys h = h
all_right P (x ∷ xs) ys h = all_right P xs ys h.1

-- ---- the sink

module _ (old new : LineSinkState) (up : new.is_down ≡ false) where
  -- a sink that did not change was up
  was_up : new ≡ old → old.is_down ≡ false
  was_up e = ap (λ (z : LineSinkState). z.is_down) (sym e) ∙ up

  -- a sink that is up was up before a batch was given up
  up_before_batch_dropped : (reason : Reason) (batch : List Arrival) → DropsBatch reason old batch new → old.is_down ≡ false
  up_before_batch_dropped reason batch h = ⊎_elim (λ (x : (line : List ℕ) × FailsInside old line new). x.1.was_up) (λ (e : new ≡ old). was_up e) (drops_batch reason batch old new h)

  -- a sink that is up was up before a batch was sent
  up_before_sent : (batch : List Arrival) (flushed : Flushed) → Sends old batch flushed new → old.is_down ≡ false
  up_before_sent batch Empty h = was_up h.1
  up_before_sent batch (Handed n) h = h.2.2.was_up
  up_before_sent batch (BatchDropped n reason) h = up_before_batch_dropped reason batch h.2

  -- a sink that is up was up before a line was written
  up_before_line : (line : List ℕ) → WritesLine old line new → old.is_down ≡ false
  up_before_line line (inl h) = h.was_up
  up_before_line line (inr (inl h)) = h.was_up
  up_before_line line (inr (inr h)) = was_up h.1

  -- a sink that is up was up before an event
  pub up_before : (event : OutputEvent) → Writes old event new → old.is_down ≡ false
  up_before (replied reply) h = up_before_line (reply_line reply) h
  up_before (was_sent sent) h = up_before_sent sent.batch sent.flushed h

-- and before several
pub up_before_all : (events : List OutputEvent) (old new : LineSinkState) → new.is_down ≡ false → WritesAll old events new → old.is_down ≡ false
up_before_all [] old new up h = was_up old new up h
up_before_all (event ∷ more) old new up h = up_before old h.0 (up_before_all more h.0 new up h.2) event h.1

-- ---- the journals

-- a journal that is unmarked was so before its last items
unmarked_before : (s : Settings) (items : List Item) (before after : ShardTurn) → Takes s before items after → IsUnmarked after.journal → IsUnmarked before.journal
unmarked_before s [] before after h u = subst (λ (z : ShardTurn). IsUnmarked z.journal) h u
unmarked_before s (item ∷ more) before after h u = (unmarked_before s more (with_entry s before (entry_of item h.0 h.1)) after h.3 u).1

-- an entry that was taken is unmarked
pub unmarked_entry : (s : Settings) (item : Item) (more : List Item) (before after : ShardTurn) → (h : Takes s before (item ∷ more) after) → IsUnmarked after.journal → is_marked (entry_of item h.0 h.1) ≡ false
unmarked_entry s item more before after h u = (unmarked_before s more (with_entry s before (entry_of item h.0 h.1)) after h.3 u).0

-- journals that are unmarked were so before a round
each_before : (s : Settings) (before : List Journal) (asked : List Asking) (items : List (List Item)) (after : List Journal) (asked_now : List Asking) (released : List Arrival) → TakesEach s before asked items after asked_now released
    → AllByRecursion IsUnmarked after → AllByRecursion IsUnmarked before
each_before s [] asked items after asked_now released h u = tt
each_before s (j ∷ js) asked [] after asked_now released h u = absurd h
each_before s (j ∷ js) asked (own ∷ others) [] asked_now released h u = absurd h
each_before s (j ∷ js) asked (own ∷ others) (k ∷ ks) asked_now released h u =
    (unmarked_before s own (record { journal = j; askings = asked }) (record { journal = k; askings = h.2 }) h.3.0 u.0, each_before s js h.2 others ks asked_now h.1 h.4 u.1)

-- journals that are unmarked were so before several rounds
pub rounds_before : (s : Settings) (before : List Journal) (asked : List Asking) (rounds : List (List (List Item))) (after : List Journal) (asked_now : List Asking) (released : List Arrival) → TakesRounds s before asked rounds after asked_now released
    → AllByRecursion IsUnmarked after → AllByRecursion IsUnmarked before
rounds_before s before asked [] after asked_now released h u = subst (AllByRecursion IsUnmarked) h.0 u
rounds_before s before asked (items ∷ more) after asked_now released h u = each_before s before asked items h.0 h.1 h.2 h.4 (rounds_before s h.0 h.1 more after asked_now h.3 h.5 u)

-- ---- the world

module _ (s : Settings) (sizes : Sizes) where
  -- what is calm after a run was calm before it
  pub calm_before_runs : (old new : ScriptWorld) (rounds : List (List (List Item))) → RunsToQuiet s sizes old rounds new → Calm new → Calm old
  calm_before_runs old new rounds r c = record {
    events = all_left (λ event. is_refusal event ≡ false) old.events (map was_sent r.batches) (subst (AllByRecursion (λ event. is_refusal event ≡ false)) (ap (λ (z : ScriptWorld). z.events) r.becomes) c.events);
    journals = rounds_before s old.journals old.askings rounds new.journals new.askings r.released r.takes c.journals;
    up = up_before_all (map was_sent r.batches) old.sink new.sink c.up (sends_writes r.batches old.sink new.sink r.sends.sends);
  }

  -- a reply is no refusal where all was calm
  pub calm_reply : (old new : ScriptWorld) (reply : Reply) (rounds : List (List (List Item))) → RepliesAndRuns s sizes old reply rounds new → Calm new → is_refusal (replied reply) ≡ false
  calm_reply old new reply rounds r c =
      let after = calm_before_runs (after_reply reply r.0 old) new rounds r.2 c in
      (all_right (λ event. is_refusal event ≡ false) old.events (replied reply ∷ []) after.events).0

  -- what is calm after a reply and a run was calm before them
  pub calm_before_replies : (old new : ScriptWorld) (reply : Reply) (rounds : List (List (List Item))) → RepliesAndRuns s sizes old reply rounds new → Calm new → Calm old
  calm_before_replies old new reply rounds r c =
      let after = calm_before_runs (after_reply reply r.0 old) new rounds r.2 c in
      record {
        events = all_left (λ event. is_refusal event ≡ false) old.events (replied reply ∷ []) after.events;
        journals = after.journals;
        up = up_before_line old.sink r.0 after.up (reply_line reply) r.1;
      }

  -- what the request changes of a world isn't what makes it calm
  as_calm : (old with_it : ScriptWorld) → old.events ≡ with_it.events → old.journals ≡ with_it.journals → old.sink ≡ with_it.sink → Calm with_it → Calm old
  as_calm old with_it e f g c = record {
    events = subst (AllByRecursion (λ event. is_refusal event ≡ false)) (sym e) c.events;
    journals = subst (AllByRecursion IsUnmarked) (sym f) c.journals;
    up = ap (λ (z : LineSinkState). z.is_down) g ∙ c.up;
  }

  -- what is calm after a reading of a request was calm before it
  calm_before_answers : (old new : ScriptWorld) (number moment : ℕ) (reading : BodyReading) → Answers s sizes old number moment reading new → Calm new → Calm old
  calm_before_answers old new number moment (refuses reply) r c = as_calm old _ refl refl refl (calm_before_replies _ new reply [] r c)
  calm_before_answers old new number moment (reads request) r c = as_calm old _ refl refl refl (calm_before_replies _ new r.0 _ r.3 c)

  -- what is calm after an instruction was calm before it
  calm_before_one : (old new : ScriptWorld) (instruction : Instruction) → Plays s sizes old instruction new → Calm new → Calm old
  calm_before_one old new (receive number moment body) (is_open, up, inl r) c = calm_before_replies old new Busy [] r.1 c
  calm_before_one old new (receive number moment body) (is_open, up, inr r) c = calm_before_answers old new number moment r.0 r.2 c
  calm_before_one old new (tick moment) r c = calm_before_runs old new _ r.2 c
  calm_before_one old new close r c = as_calm old _ refl refl refl (calm_before_runs (record old { closed = true }) new _ r.1 c)

  -- what is calm after instructions was calm before them
  pub calm_before : (played : List Instruction) (old new : ScriptWorld) → PlaysAll s sizes old played new → Calm new → Calm old
  calm_before [] old new r c = subst Calm r c
  calm_before (instruction ∷ more) old new r c = calm_before_one old r.0 instruction r.1 (calm_before more r.0 new r.2 c)
