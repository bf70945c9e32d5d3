-- The one shard of a script sends in batches what its journal releases, and each decision of it has its answers.
-- For the law `serve_is_replay`.
use Rattle.std.proofs.Common.{◌≡◌, ℕ, ◌+◌, ◌&&◌, true, List, [], ◌∷◌, ◌++◌, length, map, flat_map, inl, inr, refl, sym, ap, subst, ◌∙◌, append-nil, append_assoc}
use Rattle.std.specs.List.{list_all}
use Rattle.otlp_types.specs.declared.arrival.Arrival.{Arrival}
use Rattle.otlp_types.specs.declared.arrival.Item.{Item}
use Rattle.otlp_types.specs.declared.arrival.Item.TheVariants.{Tick}
use Rattle.span_exporter.specs.declared.answer.Flushed.{Flushed}
use Rattle.span_exporter.specs.declared.answer.Flushed.TheVariants.{Handed, BatchDropped, Empty}
use Rattle.rate_budget.specs.Grant.{Asking}
use Rattle.lane_queue.specs.Queues.{QueueState}
use Rattle.lane_seq.specs.declared.reply.Reply.{Reply}
use Rattle.lane_seq.specs.declared.reply.Reply.TheVariants.{Busy}
use Rattle.span_sink.specs.LineSinks.{LineSinkState}
use Rattle.journal_theory.specs.Journal.{Settings, Journal, IsAnswered}
use Rattle.journal_theory.specs.Fate.{output}
use Rattle.tsc_script.specs.Instructions.{Instruction, receive, tick, close}
use Rattle.script_run.specs.Connections.{connection_of, with_connection}
use Rattle.script_run.specs.Requests.{BodyReading, reads, refuses, arrivals_of}
use Rattle.script_run.specs.Sending.{SentBatch, spans_of}
use Rattle.script_run.specs.World.{ScriptWorld, Sizes, OutputEvent, replied, was_sent, new_world, ShardTurn, entry_of, with_entry, Takes, TakesEach, TakesRounds, RunsToQuiet, after_reply, RepliesAndRuns, after_receiving, to_each, ends_from, Answers, Receives, Plays, PlaysAll}
use Rattle.script_run.specs.Writing.{handed_in, handed_with}
use Rattle.script_run.proofs.Answering.{answers_fit}
use Rattle.agreement_laws.specs.Same.{sent_spans, is_handed, gives_up_none}

-- ---- events one after the other

sent_append : (xs ys : List OutputEvent) → sent_spans (xs ++ ys) ≡ sent_spans xs ++ sent_spans ys
sent_append [] ys = refl
sent_append (replied reply ∷ xs) ys = sent_append xs ys
sent_append (was_sent sent ∷ xs) ys = ap (λ (z : List Arrival). sent.batch ++ z) (sent_append xs ys) ∙ sym (append_assoc sent.batch (sent_spans xs) (sent_spans ys))

sent_batches : (batches : List SentBatch) → sent_spans (map was_sent batches) ≡ spans_of batches
sent_batches [] = refl
sent_batches (one ∷ more) = ap (λ (z : List Arrival). one.batch ++ z) (sent_batches more)

-- where no batch was given up, all that was sent was handed over
pub all_were_handed : (events : List OutputEvent) → list_all gives_up_none events ≡ true → flat_map (λ batch. batch) (handed_in events) ≡ sent_spans events
all_were_handed [] e = refl
all_were_handed (replied reply ∷ more) e = all_were_handed more e
all_were_handed (was_sent sent ∷ more) e = go sent.flushed e (all_were_handed more)
  where
    go : (f : Flushed) → (is_handed f && list_all gives_up_none more) ≡ true → (list_all gives_up_none more ≡ true → flat_map (λ batch. batch) (handed_in more) ≡ sent_spans more)
        → flat_map (λ batch. batch) (handed_with f sent.batch (handed_in more)) ≡ sent.batch ++ sent_spans more
    go (Handed n) all rest = ap (λ (z : List Arrival). sent.batch ++ z) (rest all)
    go (BatchDropped n reason) all rest = absurd (cc all)
    go Empty all rest = absurd (cc all)

-- ---- the journal of the one shard, and what was sent

abbrev pub Sent : Settings → ScriptWorld → Type 0
Sent s w = (past : Journal) × (w.journals ≡ past ∷ []) × (sent_spans w.events ≡ output s past) × IsAnswered s past

takes_answered : (s : Settings) (before : ShardTurn) (items : List Item) (after : ShardTurn) → Takes s before items after → IsAnswered s before.journal → IsAnswered s after.journal
takes_answered s before [] after h was = subst (λ (t : ShardTurn). IsAnswered s t.journal) (sym h) was
takes_answered s before (item ∷ more) after h was =
    takes_answered s (with_entry s before (entry_of item h.0 h.1)) more after h.3 (answers_fit s (entry_of item h.0 h.1) before.journal before.askings, was)

each_releases : (s : Settings) (j : Journal) (asked : List Asking) (items : List (List Item)) (after : List Journal) (asked_now : List Asking) (released : List Arrival) → TakesEach s (j ∷ []) asked items after asked_now released → IsAnswered s j
    → (k : Journal) × (after ≡ k ∷ []) × (output s k ≡ output s j ++ released) × IsAnswered s k
each_releases s j asked [] [] asked_now released h was = absurd h
each_releases s j asked [] (k ∷ ks) asked_now released h was = absurd h
each_releases s j asked (own ∷ others) [] asked_now released h was = absurd h
each_releases s j asked (own ∷ []) (k ∷ []) asked_now released h was = (k, refl, h.3.1 ∙ ap (λ (z : List Arrival). output s j ++ z) (sym (h.5 ∙ (ap (λ (z : List Arrival). h.0 ++ z) h.4.0 ∙ append-nil h.0))), takes_answered s (record { journal = j; askings = asked }) own (record { journal = k; askings = h.2 }) h.3.0 was)
each_releases s j asked (own ∷ []) (k ∷ l ∷ ks) asked_now released h was = absurd h.4
each_releases s j asked (own ∷ other ∷ others) (k ∷ []) asked_now released h was = absurd h.4
each_releases s j asked (own ∷ other ∷ others) (k ∷ l ∷ ks) asked_now released h was = absurd h.4

rounds_release : (s : Settings) (j : Journal) (asked : List Asking) (rounds : List (List (List Item))) (after : List Journal) (asked_now : List Asking) (released : List Arrival) → TakesRounds s (j ∷ []) asked rounds after asked_now released → IsAnswered s j
    → (k : Journal) × (after ≡ k ∷ []) × (output s k ≡ output s j ++ released) × IsAnswered s k
rounds_release s j asked [] after asked_now released h was = (j, h.0, sym (append-nil (output s j)) ∙ ap (λ (z : List Arrival). output s j ++ z) (sym h.2), was)
rounds_release s j asked (items ∷ more) after asked_now released h was =
    let one = each_releases s j asked items h.0 h.1 h.2 h.4 was in
    let rest = rounds_release s one.0 h.1 more after asked_now h.3 (subst (λ (js : List Journal). TakesRounds s js h.1 more after asked_now h.3) one.1 h.5) one.3 in
    (rest.0, rest.1, rest.2 ∙ (ap (λ (z : List Arrival). z ++ h.3) one.2 ∙ (append_assoc (output s j) h.2 h.3 ∙ ap (λ (z : List Arrival). output s j ++ z) (sym h.6))), rest.3)

quiet_sent : (s : Settings) (sizes : Sizes) (old : ScriptWorld) (rounds : List (List (List Item))) (new : ScriptWorld) → Sent s old → RunsToQuiet s sizes old rounds new → Sent s new
quiet_sent s sizes old rounds new was r =
    let took = rounds_release s was.0 old.askings rounds new.journals new.askings r.released (subst (λ (js : List Journal). TakesRounds s js old.askings rounds new.journals new.askings r.released) was.1 r.takes) was.3 in
    let events : new.events ≡ old.events ++ map was_sent r.batches = ap (λ (w : ScriptWorld). w.events) r.becomes in (
      took.0,
      took.1,
      ap sent_spans events ∙ (sent_append old.events (map was_sent r.batches)
          ∙ (ap (λ (z : List Arrival). sent_spans old.events ++ z) (sent_batches r.batches ∙ r.sends.are_all) ∙ (ap (λ (z : List Arrival). z ++ r.released) was.2 ∙ sym took.2))),
      took.3,
    )

replies_sent : (s : Settings) (sizes : Sizes) (old : ScriptWorld) (reply : Reply) (rounds : List (List (List Item))) (new : ScriptWorld) → Sent s old → RepliesAndRuns s sizes old reply rounds new → Sent s new
replies_sent s sizes old reply rounds new was r =
    quiet_sent s sizes (after_reply reply r.0 old) rounds new (was.0, was.1, sent_append old.events (replied reply ∷ []) ∙ (append-nil (sent_spans old.events) ∙ was.2), was.3) r.2

answers_sent : (s : Settings) (sizes : Sizes) (old : ScriptWorld) (number moment : ℕ) (reading : BodyReading) (new : ScriptWorld) → Sent s old → Answers s sizes old number moment reading new → Sent s new
answers_sent s sizes old number moment (refuses reply) new was r = replies_sent s sizes (record old { contacts = with_connection number old.contacts }) reply [] new was r
answers_sent s sizes old number moment (reads request) new was r =
    replies_sent s sizes (after_receiving number (arrivals_of (connection_of number old.contacts) moment request) r.2.refused old) r.0 (map (λ (q : QueueState Item). q.items) r.1 ∷ []) new was r.3

plays_sent : (s : Settings) (sizes : Sizes) (old : ScriptWorld) (instruction : Instruction) (new : ScriptWorld) → Sent s old → Plays s sizes old instruction new → Sent s new
plays_sent s sizes old (receive number moment body) new was r = go r.2
  where
    go : Receives s sizes old number moment body new → Sent s new
    go (inl busy) = replies_sent s sizes old Busy [] new was busy.1
    go (inr taken) = answers_sent s sizes old number moment taken.0 new was taken.2
plays_sent s sizes old (tick moment) new was r = quiet_sent s sizes old (to_each (Tick moment) old.journals ∷ []) new was r.2
plays_sent s sizes old close new was r = quiet_sent s sizes (record old { closed = true }) (ends_from 0 (length old.contacts.connected + 1) old.journals) new was r.1

all_sent : (s : Settings) (sizes : Sizes) (old : ScriptWorld) (played : List Instruction) (new : ScriptWorld) → Sent s old → PlaysAll s sizes old played new → Sent s new
all_sent s sizes old [] new was h = subst (λ (w : ScriptWorld). Sent s w) (sym h) was
all_sent s sizes old (one ∷ more) new was h = all_sent s sizes h.0 more new (plays_sent s sizes old one h.0 was h.1) h.2

pub script_sends : (s : Settings) (sizes : Sizes) (lanes : ℕ) (first : LineSinkState) (played : List Instruction) (w : ScriptWorld) → PlaysAll s sizes (new_world lanes 1 first) played w → Sent s w
script_sends s sizes lanes first played w h = all_sent s sizes (new_world lanes 1 first) played w ([], refl, refl, tt) h
