-- Each shard of the core in its turn takes its items.
-- For the contract of `scripts_are_runs_of_the_core`.
use Rattle.std.proofs.Common.{◌≡◌, ℕ, ◌+◌, Bool, true, false, not, ◌&&◌, List, [], ◌∷◌, ◌++◌, map, length, slice_get, refl, ap, sym, subst, ◌∙◌, arith, append_assoc, append-nil}
use Rattle.std.specs.List.{sum_by}
use Rattle.std.proofs.lemmas.List.{append_cancel_left}
use Rattle.std.proofs.lemmas.List.Sums.{sum_by-cons}
use Rattle.journal_theory.proofs.Counted.{under_append}
use Rattle.otlp_types.specs.declared.arrival.Arrival.{Arrival}
use Rattle.otlp_types.specs.declared.arrival.Item.{Item}
use Rattle.otlp_types.specs.declared.arrival.Item.TheVariants.{Span, Tick, End}
use Rattle.span_ids.specs.declared.outcome.Reason.{Reason}
use Rattle.journal_theory.specs.Journal.{Entry, Journal, has_ended}
use Rattle.journal_theory.specs.Fate.{Effect, no_effect, ◌then◌, DroppedSpan, effect, under}
use Rattle.world_theory.specs.World.{CoreConfig, CoreShard, World as Core, ticker}
use Rattle.world_theory.specs.Step.{sender_is_done}
use Rattle.script_run.specs.World.{ShardTurn, entry_of, with_entry, Takes, TakesEach}
use Rattle.script_run.specs.Limiting.{with_answers}
use Rattle.rate_budget.specs.Grant.{Asking}
use Rattle.script_run.proofs.Answering.{AreGiven, answers_fit}
use Rattle.script_run.specs.Counts.{dropped_by_journal}
use Rattle.script_run.proofs.Stands.{quiet_shard, shards_with, no_queues}
use Rattle.script_run.proofs.QuietRuns.{Leads, leads_same, leads_then}
use Rattle.script_run.proofs.TakingOne.{gain, effect_more, then_assoc, then_none, own, with_shards, among, TakesQuietly, takes_span, takes_tick, takes_end}

module _ (c : CoreConfig) (k : Core) where
  -- the sender may send its End to any shard whose queue is empty
  abbrev pub IsDone : (sender : ℕ) → Type 0
  IsDone sender = (shards : List CoreShard) (exported : List Arrival) (counted : List DroppedSpan) (place : ℕ) (J : Journal)
      → sender_is_done (with_shards c k shards exported counted) place (quiet_shard (own c k) [] J) sender (slice_get k.lanes sender) ≡ true

  -- what a shard may take: the spans of its queue, or where that is empty a tick or an End
  pub data Takable (queue : List Arrival) (J : Journal) (items : List Item) : Type 0 where
    queued : items ≡ map Span queue → Takable queue J items
    ticked : (moment : ℕ) → queue ≡ [] → items ≡ Tick moment ∷ [] → has_ended J (ticker k) ≡ false → Takable queue J items
    ended : (sender : ℕ) → queue ≡ [] → items ≡ End sender ∷ [] → has_ended J sender ≡ false → IsDone sender → Takable queue J items

  module _ (front rest : List CoreShard) where
    -- what a shard's items did, from a quiet shard to a quiet one with an empty queue
    pub record Turned (queue : List Arrival) (before after : Journal) (X : List Arrival) (C : List DroppedSpan) : Type 0 where
      pub did : Effect
      pub is : effect (own c k) after ≡ effect (own c k) before then did
      pub leads : Leads c (among c k front rest (quiet_shard (own c k) queue before) X C) (among c k front rest (quiet_shard (own c k) [] after) (X ++ did.released) (C ++ did.counted))

    -- a shard that takes nothing stays as it is
    none_turned : (J after : Journal) (X : List Arrival) (C : List DroppedSpan) → after ≡ J → Turned [] J after X C
    none_turned J after X C e = rw e (record {
      did = no_effect;
      is = sym (then_none (effect (own c k) J));
      leads = leads_same c _ _ (cc (append-nil X, append-nil C));
    })

    -- a shard takes an item and then others
    more_turned : (before after_queue : List Arrival) (J after : Journal) (e : Entry) (X : List Arrival) (C : List DroppedSpan)
        → TakesQuietly c k front rest before after_queue J e
        → ((Y : List Arrival) (D : List DroppedSpan) → Turned after_queue (e ∷ J) after Y D) → Turned before J after X C
    more_turned before after_queue J after e X C h f = record {
      did = one then more.did;
      is = more.is ∙ (ap (λ (z : Effect). z then more.did) (effect_more (own c k) e J) ∙ then_assoc (effect (own c k) J) one more.did);
      leads = leads_then c _ _ _ (h X C) (leads_then c _ _ _ more.leads (leads_same c _ _ (cc (append_assoc X one.released more.did.released, append_assoc C one.counted more.did.counted))));
    }
      where
        one : Effect
        one = gain (own c k) e J

        more : Turned after_queue (e ∷ J) after (X ++ one.released) (C ++ one.counted)
        more = f (X ++ one.released) (C ++ one.counted)

    -- the entry with the limiter's answers
    abbrev decided : ShardTurn → Item → (refused lost : Bool) → Entry
    decided t item refused lost = with_answers (own c k) t.journal t.askings (entry_of item refused lost)

    fits : (t : ShardTurn) (item : Item) (refused lost : Bool) → AreGiven (own c k) (decided t item refused lost) t.journal
    fits t item refused lost = answers_fit (own c k) (entry_of item refused lost) t.journal t.askings

    -- a shard takes the spans of its queue
    spans_turned : (queue : List Arrival) (t after : ShardTurn) → Takes (own c k) t (map Span queue) after → (X : List Arrival) (C : List DroppedSpan) → Turned queue t.journal after.journal X C
    spans_turned [] t after h X C = none_turned t.journal after.journal X C (ap (λ (z : ShardTurn). z.journal) h)
    spans_turned (a ∷ queue) t after h X C = more_turned (a ∷ queue) queue t.journal after.journal (decided t (Span a) h.0 h.1) X C
        (takes_span c k front rest a queue t.journal h.0 h.1 (decided t (Span a) h.0 h.1).answers h.2 (fits t (Span a) h.0 h.1))
        (spans_turned queue (with_entry (own c k) t (entry_of (Span a) h.0 h.1)) after h.3)

    -- a shard takes an item that memory is not refused to
    unmarked_turned : (item : Item) (t after : ShardTurn) (refused lost : Bool) → (not refused && not lost) ≡ true → after ≡ with_entry (own c k) t (entry_of item refused lost)
        → TakesQuietly c k front rest [] [] t.journal (decided t item false false) → (X : List Arrival) (C : List DroppedSpan) → Turned [] t.journal after.journal X C
    unmarked_turned item t after true lost m e h X C = absurd (cc m)
    unmarked_turned item t after false true m e h X C = absurd (cc m)
    unmarked_turned item t after false false m e h X C = more_turned [] [] t.journal after.journal (decided t item false false) X C h
        (λ Y D. none_turned (decided t item false false ∷ t.journal) after.journal Y D (ap (λ (z : ShardTurn). z.journal) e))

    -- a shard takes a tick
    tick_turned : (moment : ℕ) (t after : ShardTurn) → has_ended t.journal (ticker k) ≡ false → Takes (own c k) t (Tick moment ∷ []) after → (X : List Arrival) (C : List DroppedSpan) → Turned [] t.journal after.journal X C
    tick_turned moment t after runs h = unmarked_turned (Tick moment) t after h.0 h.1 h.2 h.3
        (takes_tick c k front rest moment [] t.journal (decided t (Tick moment) false false).answers runs (fits t (Tick moment) false false))

    -- a shard takes an End
    end_turned : (sender : ℕ) (t after : ShardTurn) → has_ended t.journal sender ≡ false → IsDone sender → Takes (own c k) t (End sender ∷ []) after → (X : List Arrival) (C : List DroppedSpan) → Turned [] t.journal after.journal X C
    end_turned sender t after runs done h = unmarked_turned (End sender) t after h.0 h.1 h.2 h.3
        (takes_end c k front rest sender [] t.journal (decided t (End sender) false false).answers runs (fits t (End sender) false false)
        (λ X C. done (front ++ quiet_shard (own c k) [] t.journal ∷ rest) X C (length front) t.journal))

    -- a shard takes its items
    turned : (queue : List Arrival) (t after : ShardTurn) (items : List Item) → Takable queue t.journal items → Takes (own c k) t items after → (X : List Arrival) (C : List DroppedSpan) → Turned queue t.journal after.journal X C
    turned queue t after items (queued e) h = spans_turned queue t after (subst (λ (z : List Item). Takes (own c k) t z after) e h)
    turned queue t after items (ticked moment q e runs) h = rw q (tick_turned moment t after runs (subst (λ (z : List Item). Takes (own c k) t z after) e h))
    turned queue t after items (ended sender q e runs done) h = rw q (end_turned sender t after runs done (subst (λ (z : List Item). Takes (own c k) t z after) e h))

  -- each shard may take its items
  abbrev pub AllTakable : (queues : List (List Arrival)) → List Journal → (items : List (List Item)) → Type 0
  AllTakable [] [] [] = Unit {0}
  AllTakable (queue ∷ queues) (J ∷ Js) (items ∷ others) = Takable queue J items × AllTakable queues Js others
  AllTakable _ _ _ = ⊥

  -- by so much more than the old journals do the new ones count
  abbrev pub CountsMore : (before after : List DroppedSpan) → (pasts nexts : List Journal) → Type 0
  CountsMore before after pasts nexts = (reason : Reason)
      → length (under reason after) + sum_by (dropped_by_journal (own c k) reason) pasts ≡ length (under reason before) + sum_by (dropped_by_journal (own c k) reason) nexts

  -- what a round did: all shards from this place on were quiet and are quiet again, with empty queues
  pub record Rounded (front : List CoreShard) (queues : List (List Arrival)) (pasts nexts : List Journal) (X released : List Arrival) (C : List DroppedSpan) : Type 0 where
    pub counted : List DroppedSpan
    pub counts : CountsMore C counted pasts nexts
    pub leads : Leads c (with_shards c k (front ++ shards_with (own c k) queues pasts) X C) (with_shards c k (front ++ shards_with (own c k) (no_queues nexts) nexts) (X ++ released) counted)

  -- the shard at this place and then those behind it
  rounded_more : (front : List CoreShard) (queue : List Arrival) (queues : List (List Arrival)) (past next : Journal) (pasts nexts : List Journal) (X first rest released : List Arrival) (C : List DroppedSpan)
      → (effect (own c k) next).released ≡ (effect (own c k) past).released ++ first → released ≡ first ++ rest → (one : Turned front (shards_with (own c k) queues pasts) queue past next X C)
      → Rounded (front ++ quiet_shard (own c k) [] next ∷ []) queues pasts nexts (X ++ one.did.released) rest (C ++ one.did.counted) → Rounded front (queue ∷ queues) (past ∷ pasts) (next ∷ nexts) X released C
  rounded_more front queue queues past next pasts nexts X first rest released C e f one more = record {
    counted = more.counted;
    counts = λ reason. omega (
      arith,
      more.counts reason,
      under_append reason C one.did.counted,
      own_counts reason,
      sum_by-cons (dropped_by_journal (own c k) reason) past pasts,
      sum_by-cons (dropped_by_journal (own c k) reason) next nexts,
    );
    leads = leads_then c _ _ _ one.leads (leads_then c _ _ _ (leads_same c _ _ (ap (λ (z : List CoreShard). with_shards c k z (X ++ one.did.released) (C ++ one.did.counted)) (sym (append_assoc front (done ∷ []) (shards_with (own c k) queues pasts)))))
        (leads_then c _ _ _ more.leads (leads_same c _ _ (ap (λ (z : List CoreShard). with_shards c k z ((X ++ one.did.released) ++ rest) more.counted) (append_assoc front (done ∷ []) (shards_with (own c k) (no_queues nexts) nexts))
        ∙ ap (λ (z : List Arrival). with_shards c k (front ++ done ∷ shards_with (own c k) (no_queues nexts) nexts) z more.counted) joined))));
  }
    where
      done : CoreShard
      done = quiet_shard (own c k) [] next

      is_first : one.did.released ≡ first
      is_first = append_cancel_left (effect (own c k) past).released one.did.released first (sym (ap (λ (z : Effect). z.released) one.is) ∙ e)

      joined : (X ++ one.did.released) ++ rest ≡ X ++ released
      joined = append_assoc X one.did.released rest ∙ (ap (λ (z : List Arrival). X ++ (z ++ rest)) is_first ∙ ap (λ (z : List Arrival). X ++ z) (sym f))

      own_counts : (reason : Reason) → dropped_by_journal (own c k) reason next ≡ dropped_by_journal (own c k) reason past + length (under reason one.did.counted)
      own_counts reason = ap (λ (z : Effect). length (under reason z.counted)) one.is ∙ under_append reason (effect (own c k) past).counted one.did.counted

  -- each shard in its turn takes its items, where each may
  pub rounds : (front : List CoreShard) (queues : List (List Arrival)) (pasts : List Journal) (asked : List Asking) (items : List (List Item)) (nexts : List Journal) (asked_now : List Asking) (released : List Arrival)
      → AllTakable queues pasts items → TakesEach (own c k) pasts asked items nexts asked_now released → (X : List Arrival) (C : List DroppedSpan) → Rounded front queues pasts nexts X released C
  rounds front [] [] asked [] [] asked_now released t h X C = rw (h.0) (record {
    counted = C;
    counts = λ reason. refl;
    leads = leads_same c _ _ (ap (λ (z : List Arrival). with_shards c k (front ++ []) z C) (sym (append-nil X)));
  })
  rounds front (queue ∷ queues) (past ∷ pasts) asked (items ∷ others) (next ∷ nexts) asked_now released t h X C =
      let one = turned front (shards_with (own c k) queues pasts) queue (record { journal = past; askings = asked }) (record { journal = next; askings = h.2 }) items t.0 h.3.0 X C in
      rounded_more front queue queues past next pasts nexts X h.0 h.1 released C h.3.1 h.5 one
      (rounds (front ++ quiet_shard (own c k) [] next ∷ []) queues pasts h.2 others nexts asked_now h.1 t.1 h.4 (X ++ one.did.released) (C ++ one.did.counted))
  rounds front [] [] asked [] (next ∷ nexts) asked_now released t h X C = absurd h
  rounds front (queue ∷ queues) (past ∷ pasts) asked (items ∷ others) [] asked_now released t h X C = absurd h
  rounds front queues pasts asked items nexts asked_now released t h X C = absurd t
