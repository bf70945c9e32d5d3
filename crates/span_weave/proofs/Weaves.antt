-- What running threads did is a run of the core.
-- For the contract of `weave`.
use Rattle.std.proofs.Common.{◌≡◌, ◌≢◌, inl, ℕ, zero, suc, ◌+◌, ◌<◌, Bool, true, false, not, cond, is_some, List, [], ◌∷◌, ◌++◌, length, map, filter, Option, Some, None, option_map, sym, refl, ap, ◌∙◌, subst, append-nil, lt-ltb, arith}
use Rattle.otlp_types.specs.declared.arrival.Arrival.{Arrival}
use Rattle.otlp_types.specs.declared.arrival.Item.TheVariants.{Tick, End}
use Rattle.otlp_types.specs.declared.span.Ids.{Ids}
use Rattle.span_ids.specs.declared.outcome.Reason.{Reason}
use Rattle.span_ids.specs.declared.outcome.Reason.TheVariants.{InvalidId, QueueFull, NoMemory, Evicted, NotSampled, LateNotSampled, ExporterDown}
use Rattle.journal_theory.specs.Journal.{Settings, Journal, IsAnswered, have_ended}
use Rattle.journal_theory.specs.Fate.{effect, output}
use Rattle.world_theory.specs.World.{CoreConfig, CoreLane, CoreShard, World, new_world, goes_to, ids_go_to}
use Rattle.world_theory.specs.Step.{has_ids}
use Rattle.world_theory.specs.Places.{IsClosed}
use Rattle.journal_theory.specs.Marked.{MarksApply}
use Rattle.span_weave.specs.Threads.{Threads, was_pushed, refused_in, items_of, journal_of, ExporterMade, new_export, Meets}
use Rattle.span_weave.specs.Woven.{sum_below, counted_by_lane, counted_by_shard, counted_in_all, Woven, Weave}
use Rattle.span_weave.proofs.Lists.{get_tab}
use Rattle.span_weave.proofs.Sums.{sum_same, sum_plus, sum_swap}
use Rattle.span_weave.proofs.Counting.{number, if_same, if_same_plus, if_same_none}
use Rattle.span_weave.proofs.Runs.{LeadsBy, quiet_then, then_quiet}
use Rattle.span_weave.proofs.Worlds.{Model, own, lane_of, world}
use Rattle.span_weave.proofs.Journals.{journal_after, journal_is, marks_after, answers_after}
use Rattle.span_weave.proofs.AllShards.{journal_at, done, for_shards, ReadyAt, WovenShards, weave_shards}
use Rattle.span_weave.proofs.Exporting.{shipped_out, Exported, export_acts}
use Rattle.span_weave.proofs.Receiving.{lacks_ids, begun, Begun, all_arrive}
use Rattle.span_weave.proofs.Closing.{none_lacking, nothing_left, Finished, is_closed}

-- ---- valid ids

-- what goes to a shard has valid ids
goes_with_ids : (shards s : ℕ) (a : Arrival) → goes_to shards s a ≡ true → has_ids a ≡ true
goes_with_ids shards s a e = go a.rec.span.ids e
  where
    go : (ids : Option Ids) → ids_go_to shards s ids ≡ true → is_some ids ≡ true
    go None h = absurd (cc h)
    go (Some ids) h = refl

-- of those with valid ids the same go to a shard
goes_of_valid : (shards s : ℕ) (xs : List Arrival) → filter (goes_to shards s) (filter has_ids xs) ≡ filter (goes_to shards s) xs
goes_of_valid shards s [] = refl
goes_of_valid shards s (a ∷ xs) = go (has_ids a) refl (goes_to shards s a) refl (goes_of_valid shards s xs)
  where
    kept : List Arrival
    kept = filter has_ids xs

    go : (b : Bool) → has_ids a ≡ b → (d : Bool) → goes_to shards s a ≡ d → filter (goes_to shards s) kept ≡ filter (goes_to shards s) xs
        → filter (goes_to shards s) (cond b (a ∷ kept) kept) ≡ cond d (a ∷ filter (goes_to shards s) xs) (filter (goes_to shards s) xs)
    go true e d g h = ap (λ b. cond b (a ∷ filter (goes_to shards s) kept) (filter (goes_to shards s) kept)) g ∙ ap (λ (z : List Arrival). cond d (a ∷ z) z) h
    go false e true g h = absurd (never (has_ids a) (goes_with_ids shards s a g) e)
      where
        never : (b : Bool) → b ≡ true → b ≡ false → ⊥
        never b f g = cc (f, g)
    go false e false g h = h

-- ---- counts

-- what a lane counts under a reason
by_lane : (t : Threads) (shards l : ℕ) (reason : Reason)
    → counted_by_lane t shards l reason ≡ if_same InvalidId reason (length (filter lacks_ids (t.received l))) + if_same QueueFull reason (sum_below shards (λ s. length (refused_in (t.tries l s))))
by_lane t shards l InvalidId = omega arith
by_lane t shards l QueueFull = omega arith
by_lane t shards l NoMemory = refl
by_lane t shards l Evicted = refl
by_lane t shards l NotSampled = refl
by_lane t shards l LateNotSampled = refl
by_lane t shards l ExporterDown = refl

sum_if : (r reason : Reason) (n : ℕ) (f : ℕ → ℕ) → sum_below n (λ k. if_same r reason (f k)) ≡ if_same r reason (sum_below n f)
sum_if r reason zero f = sym (if_same_none r reason)
sum_if r reason (suc n) f = omega (arith, sum_if r reason n f, if_same_plus r reason (f n) (sum_below n f))

module _ (c : CoreConfig) (lanes shards : ℕ) (t : Threads) (end : ExporterMade) (some : 0 < shards) (h : Meets c lanes shards t end) where
  abbrev O : Settings
  O = own c lanes shards t.received

  -- ---- the three parts of the run

  received_all : Begun c lanes shards t.received h.numbered
  received_all = all_arrive c lanes shards t.received h.numbered

  abbrev m : Model
  m = begun c lanes shards t.received h.numbered received_all.counted

  same_journal : (s : ℕ) → journal_after [] (t.popped s) ≡ journal_of t s
  same_journal s = journal_is [] (t.popped s) ∙ append-nil (journal_of t s)

  ready : (s : ℕ) (below : s < shards) → ReadyAt c lanes shards t.received m t.tries t.ticks t.popped m.unrouted s below
  ready s below = record {
    of_senders = h.of_senders s below;
    marked = marks_after O (t.popped s) [] (subst (MarksApply O) (sym (same_journal s)) (h.marked s below));
    answered = answers_after O (t.popped s) [] (subst (IsAnswered O) (sym (same_journal s)) (h.answered s below));
    tried = λ l i. goes_of_valid shards s (t.received l) ∙ sym (h.tried l s i below);
    lanes_owe = λ l i. inl (h.of_lane l s i below, refl);
    ticker_owes = inl (h.of_ticker s below, refl);
  }

  some_popped : (s : ℕ) → s < shards → t.popped s ≢ []
  some_popped s below none = never (t.ticks s) (sym (ap (items_of lanes) none) ∙ h.of_ticker s below)
    where
      never : (ticks : List ℕ) → [] ≡ map (λ m. Tick m) ticks ++ End lanes ∷ [] → ⊥
      never [] e = cc e
      never (x ∷ ticks) e = cc e

  shards_took : WovenShards c lanes shards t.received m t.tries t.ticks t.popped shards
  shards_took = weave_shards c lanes shards t.received m t.tries t.ticks t.popped shards (omega arith) (λ s below. refl) ready some_popped

  exported : Exported c lanes shards t.received shards_took.unrouted shards_took.shards_now new_export shards_took.counted end
  exported = export_acts c lanes shards t.received shards_took.unrouted t.acts shards_took.shards_now new_export shards_took.counted end h.of_shards
      (λ s below. ap (λ (z : CoreShard). z.unshipped) (shards_took.here s below) ∙ (ap (output O) (same_journal s) ∙ sym (h.shipped s below))) h.exports

  -- ---- the world after them

  abbrev last : Model
  last = record { unrouted = shards_took.unrouted; shards = exported.shards_now; exported = []; batch = end.batch; handed = end.handed; counted = exported.counted; down = end.down }

  abbrev after : World
  after = world c lanes shards t.received last

  -- the lanes' tries in the run
  abbrev tries : (lane shard : ℕ) → List Bool
  tries l k = for_shards c lanes shards t.received m t.tries t.ticks t.popped shards l k

  leads : LeadsBy c lanes tries (new_world lanes shards) after
  leads = quiet_then c lanes tries _ _ _ received_all.leads (then_quiet c lanes tries _ _ _ shards_took.leads exported.leads)

  shard_is : (s : ℕ) → s < shards → exported.shards_now s ≡ shipped_out (done c lanes shards t.received m t.tries t.ticks t.popped s)
  shard_is s below = exported.shipped s below ∙ ap shipped_out (shards_took.here s below)

  closed : IsClosed c after
  closed = is_closed c lanes shards t.received last
      (λ l i. nothing_left shards some (shards_took.unrouted l)
      (shards_took.others l lacks_ids (λ s below x e. ap (λ b. not b) (goes_with_ids shards s x e)) ∙ none_lacking (t.received l)) (λ s below. shards_took.routed s below l i))
      (λ s below. subst (Finished O) (sym (shard_is s below)) (record { queue = refl; buffered = shards_took.finished s below; unshipped = refl }))
      (λ s below. ap (λ (z : CoreShard). have_ended z.journal (lanes + 1)) (shard_is s below) ∙ shards_took.ended s below)
      refl h.flushed

  counted : (reason : Reason) → number reason after.counted ≡ counted_in_all c lanes shards t end reason
  counted reason =
      let invalid = λ (l : ℕ). if_same InvalidId reason (length (filter lacks_ids (t.received l))) in
      let full = λ (l s : ℕ). length (refused_in (t.tries l s)) in
      let nothing : number reason new_export.counted ≡ 0 = refl in
      let by_lanes : sum_below lanes (λ l. counted_by_lane t shards l reason) ≡ sum_below lanes (λ l. invalid l + if_same QueueFull reason (sum_below shards (λ s. full l s)))
      = sum_same lanes (λ l. counted_by_lane t shards l reason) (λ l. invalid l + if_same QueueFull reason (sum_below shards (λ s. full l s))) (λ l i. by_lane t shards l reason) in
      let of_shard = λ (s : ℕ). number reason (effect O (journal_at c lanes shards t.received m t.tries t.ticks t.popped s)).counted in
      let by_shards : sum_below shards of_shard ≡ sum_below shards (λ s. counted_by_shard c lanes t s reason)
      = sum_same shards of_shard (λ s. counted_by_shard c lanes t s reason) (λ s i. ap (λ (z : Journal). number reason (effect O z).counted) (same_journal s)) in
      omega (
        arith,
        nothing,
        exported.number_is reason,
        shards_took.number_is reason,
        received_all.number_is reason,
        by_lanes,
        by_shards,
        sum_plus lanes invalid (λ l. if_same QueueFull reason (sum_below shards (λ s. full l s))),
        sum_plus shards (λ s. if_same QueueFull reason (sum_below lanes (λ l. full l s))) of_shard,
        sum_if QueueFull reason lanes (λ l. sum_below shards (λ s. full l s)),
        sum_if QueueFull reason shards (λ s. sum_below lanes (λ l. full l s)),
        ap (if_same QueueFull reason) (sum_swap lanes shards full),
      )

  woven : Woven c lanes shards t end
  woven = record {
    steps = leads.0;
    after = after;
    runs = leads.1;
    closed = closed;
    received = λ l i. ap (option_map (λ (x : CoreLane). x.received)) (get_tab (lane_of c lanes shards t.received last.unrouted) 0 lanes l l i (omega arith));
    tried = λ l s i below. leads.2 l s i ∙ ap (λ b. cond b (map was_pushed (t.tries l s)) []) (lt-ltb s shards below);
    journals = λ s below. ap (option_map (λ (x : CoreShard). x.journal)) (get_tab exported.shards_now 0 shards s s below (omega arith) ∙ ap (λ (x : CoreShard). Some x) (shard_is s below)) ∙ ap (λ (z : Journal). Some z) (same_journal s);
    handed = refl;
    down = refl;
    counted = counted;
  }

-- the law
pub weaves : Weave
weaves c lanes shards t end some h = woven c lanes shards t end some h
