-- How the core stands once all that the shards released has been sent.
-- For the contract of `scripts_are_runs_of_the_core`.
use Rattle.std.proofs.Common.{◌≡◌, ℕ, zero, suc, ◌+◌, ◌<◌, true, false, List, [], ◌∷◌, ◌++◌, map, filter, flat_map, length, refl, ap, sym, subst, ◌∙◌, arith}
use Rattle.std.specs.List.{sum_by, list_all, AllByRecursion}
use Rattle.std.proofs.lemmas.List.Sums.{sum_by-append}
use Rattle.world_theory.proofs.WaitingPlaces.{none_waits_counted, none_waits_handed}
use Rattle.otlp_types.specs.declared.arrival.Arrival.{Arrival}
use Rattle.otlp_types.specs.declared.arrival.Item.{Item}
use Rattle.span_ids.specs.declared.outcome.Reason.{Reason}
use Rattle.lane_seq.specs.Numbers.{is_invalid}
use Rattle.rate_budget.specs.Grant.{Asking}
use Rattle.journal_theory.specs.Journal.{Settings, Journal, due_now, have_ended}
use Rattle.journal_theory.specs.Fate.{DroppedSpan, under}
use Rattle.span_sink.specs.LineSinks.{LineSinkState}
use Rattle.drop_ledger.specs.declared.count.Count.{Count}
use Rattle.drop_ledger.specs.declared.count.Count.TheVariants.{Handed, Dropped}
use Rattle.drop_ledger.proofs.EachCount.{each_count}
use Rattle.world_theory.specs.World.{CoreConfig, CoreLane, CoreShard, World as Core, settings}
use Rattle.world_theory.specs.Places.{HeldKey, handed, counted_under, held_at, held_by_lanes, held_by_shards, held, is_waiting, buffered_spans, IsClosed}
use Rattle.world_theory.specs.Headline.{handed_spans}
use Rattle.script_run.specs.Sending.{SentBatch, spans_of, SendsInBatches}
use Rattle.script_run.specs.World.{ScriptWorld, Sizes, was_sent, TakesEach}
use Rattle.script_run.specs.Counts.{counted_at_lanes, counted_at, dropped_by_journal, number_reported}
use Rattle.script_run.specs.Writing.{handed_in}
use Rattle.script_run.specs.CoreRun.{core_config}
use Rattle.script_run.proofs.Stands.{shards_with, lanes_from, no_queues, HasNoEnd, Stands, Reaches}
use Rattle.script_run.proofs.QuietRuns.{Leads, leads_same, leads_then}
use Rattle.script_run.proofs.TakingOne.{own, with_shards}
use Rattle.script_run.proofs.TakingRounds.{AllTakable, Rounded, rounds}
use Rattle.script_run.proofs.SendingBatches.{batches_fit, handed_append, spans_append, handed_counted, sending, SentAll, sends_all}

-- ---- what only some fields of the world decide

-- what the lanes count is by what was received, and by how many spans found their queue full
pub lanes_count : (v w : ScriptWorld) → v.received ≡ w.received → v.full ≡ w.full → (count : Count) → counted_at_lanes v count ≡ counted_at_lanes w count
lanes_count v w r f = each_count (λ count. counted_at_lanes v count ≡ counted_at_lanes w count) (ap (λ (z : List Arrival). length z) r) refl (ap (λ (z : List Arrival). length (filter is_invalid z)) r) f refl refl refl refl refl

-- the lanes are by what was received, and by whether the script is closed
pub lanes_same : (v w : ScriptWorld) → v.received ≡ w.received → v.closed ≡ w.closed → (lane lanes : ℕ) → lanes_from v lane lanes ≡ lanes_from w lane lanes
lanes_same v w r c lane zero = refl
lanes_same v w r c lane (suc lanes) = cc (lanes_same v w r c (lane + 1) lanes, r, c)

-- so many lanes
pub length_lanes : (w : ScriptWorld) (lane lanes : ℕ) → length (lanes_from w lane lanes) ≡ lanes
length_lanes w lane zero = refl
length_lanes w lane (suc lanes) = ap suc (length_lanes w (lane + 1) lanes)

-- ---- a closed core

-- all senders have ended, and the buffer holds nothing that waits
abbrev pub Finished : Settings → Journal → Type 0
Finished s past = (have_ended past s.senders ≡ true) × (buffered_spans s past (length (due_now s past)) ≡ [])

-- the lanes hold nothing that is still to be routed
none_routed : (w : ScriptWorld) (number lane lanes : ℕ) → held_by_lanes number (lanes_from w lane lanes) ≡ []
none_routed w number lane zero = refl
none_routed w number lane (suc lanes) = none_routed w (number + 1) (lane + 1) lanes

-- the lanes of a closed script have ended
all_lanes_ended : (w : ScriptWorld) → w.closed ≡ true → (lane lanes : ℕ) → list_all (λ (l : CoreLane). l.ended) (lanes_from w lane lanes) ≡ true
all_lanes_ended w e lane zero = refl
all_lanes_ended w e lane (suc lanes) = rw e (all_lanes_ended w e (lane + 1) lanes)

-- shards that have finished hold nothing
none_held : (s : Settings) (number : ℕ) (pasts : List Journal) → AllByRecursion (Finished s) pasts → held_by_shards s number (shards_with s (no_queues pasts) pasts) ≡ []
none_held s number [] h = refl
none_held s number (past ∷ pasts) h = rw (h.0.1) (none_held s (number + 1) pasts h.1)

-- shards that have finished have taken all Ends
all_ends_taken : (s : Settings) (pasts : List Journal) → AllByRecursion (Finished s) pasts → list_all (λ (sh : CoreShard). have_ended sh.journal s.senders) (shards_with s (no_queues pasts) pasts) ≡ true
all_ends_taken s [] h = refl
all_ends_taken s (past ∷ pasts) h = rw (h.0.0) (all_ends_taken s pasts h.1)

-- the core is closed where the lanes have ended, the shards have finished, and nothing is left to send
is_closed : (c : CoreConfig) (s : Settings) (w : ScriptWorld) (k : Core) (pasts : List Journal) (lanes : ℕ) → settings c k ≡ s → w.closed ≡ true → k.lanes ≡ lanes_from w 0 lanes
    → k.shards ≡ shards_with s (no_queues pasts) pasts → k.exported ≡ [] → k.batch ≡ [] → AllByRecursion (Finished s) pasts → IsClosed c k
is_closed c s w k pasts lanes same e l sh x b h = record {
  lanes_ended = rw l (all_lanes_ended w e 0 lanes);
  ends_taken = ap (λ (z : Settings). list_all (λ (sh : CoreShard). have_ended sh.journal z.senders) k.shards) same ∙ (ap (list_all (λ (sh : CoreShard). have_ended sh.journal s.senders)) sh ∙ all_ends_taken s pasts h);
  nothing_waits = ap (filter (λ (h : HeldKey). is_waiting h.place)) all_held ∙ (none_waits_handed k.handed (map (λ (n : DroppedSpan). record { place = counted_under n.reason; key = n.key }) k.counted) ∙ none_waits_counted k.counted);
}
  where
    by_lanes : held_by_lanes 0 k.lanes ≡ []
    by_lanes = ap (held_by_lanes 0) l ∙ none_routed w 0 0 lanes

    by_shards : held_by_shards (settings c k) 0 k.shards ≡ []
    by_shards = ap (λ (z : Settings). held_by_shards z 0 k.shards) same ∙ (ap (held_by_shards s 0) sh ∙ none_held s 0 pasts h)

    all_held : held c k ≡ flat_map (held_at handed) k.handed ++ map (λ (n : DroppedSpan). record { place = counted_under n.reason; key = n.key }) k.counted
    all_held = rw (by_lanes, by_shards, x, b) refl

-- ---- the core before the batches

-- the core where the shards, quiet but for these queues, have taken these journals and shipped what they released
pub record Shipped (s : Settings) (w : ScriptWorld) (queues : List (List Arrival)) (pasts : List Journal) (released : List Arrival) (k : Core) : Type 0 where
  pub lanes : k.lanes ≡ lanes_from w 0 (length w.contacts.connected)
  pub senders : s.senders ≡ length w.contacts.connected + 1
  pub shards : k.shards ≡ shards_with s queues pasts
  pub exported : k.exported ≡ released
  pub batch : k.batch ≡ []
  pub handed : k.handed ≡ handed_in w.events
  pub down : k.down ≡ w.sink.is_down
  pub dropped : (reason : Reason) → length (under reason k.counted) ≡ number_reported s (record w { journals = pasts }) (Dropped reason)
  pub handed_over : length (handed_spans k) ≡ number_reported s w Handed

-- so it is before anything is taken
pub shipped_nothing : (s : Settings) (sizes : Sizes) (w : ScriptWorld) (queues : List (List Arrival)) (k : Core) → Stands s sizes w queues k → Shipped s w queues w.journals [] k
shipped_nothing s sizes w queues k h = record { lanes = h.lanes; senders = h.senders; shards = h.shards; exported = h.exported; batch = h.batch; handed = h.handed; down = h.down; dropped = h.dropped; handed_over = h.handed_over }

-- the settings of each shard are the script's
pub settings_are : (s : Settings) (sizes : Sizes) (w : ScriptWorld) (k : Core) → k.lanes ≡ lanes_from w 0 (length w.contacts.connected) → s.senders ≡ length w.contacts.connected + 1
    → settings (core_config s sizes) k ≡ s
settings_are s sizes w k l n = ap (λ (z : ℕ). record s { senders = z }) (ap (λ (z : ℕ). z + 1) (ap (λ (z : List CoreLane). length z) l ∙ length_lanes w 0 (length w.contacts.connected)) ∙ sym n)

-- a round: each shard in its turn takes its items
pub ships_round : (s : Settings) (sizes : Sizes) (w : ScriptWorld) (k : Core) (queues : List (List Arrival)) (pasts : List Journal) (asked : List Asking) (nexts : List Journal) (asked_now : List Asking) (items : List (List Item)) (before released : List Arrival)
    → Shipped s w queues pasts before k → AllTakable (core_config s sizes) k queues pasts items → TakesEach s pasts asked items nexts asked_now released
    → (after : Core) × Leads (core_config s sizes) k after × Shipped s w (no_queues nexts) nexts (before ++ released) after
ships_round s sizes w k queues pasts asked nexts asked_now items before released h t e = (after, leads_then c k _ after (leads_same c k _ begins) round.leads, ships)
  where
    c : CoreConfig
    c = core_config s sizes

    same : own c k ≡ s
    same = settings_are s sizes w k h.lanes h.senders

    round : Rounded c k [] queues pasts nexts before released k.counted
    round = rounds c k [] queues pasts asked items nexts asked_now released t (subst (λ (z : Settings). TakesEach z pasts asked items nexts asked_now released) (sym same) e) before k.counted

    after : Core
    after = with_shards c k (shards_with (own c k) (no_queues nexts) nexts) (before ++ released) round.counted

    begins : k ≡ with_shards c k (shards_with (own c k) queues pasts) before k.counted
    begins = ap (λ (z : List CoreShard). with_shards c k z k.exported k.counted) (h.shards ∙ ap (λ (z : Settings). shards_with z queues pasts) (sym same))
        ∙ ap (λ (z : List Arrival). with_shards c k (shards_with (own c k) queues pasts) z k.counted) h.exported

    counts : (reason : Reason) → length (under reason round.counted) + sum_by (dropped_by_journal s reason) pasts ≡ length (under reason k.counted) + sum_by (dropped_by_journal s reason) nexts
    counts reason = subst (λ (z : Settings). length (under reason round.counted) + sum_by (dropped_by_journal z reason) pasts ≡ length (under reason k.counted) + sum_by (dropped_by_journal z reason) nexts) same (round.counts reason)

    ships : Shipped s w (no_queues nexts) nexts (before ++ released) after
    ships = record {
      lanes = h.lanes;
      senders = h.senders;
      shards = ap (λ (z : Settings). shards_with z (no_queues nexts) nexts) same;
      exported = refl;
      batch = h.batch;
      handed = h.handed;
      down = h.down;
      dropped = λ reason. omega (arith, counts reason, h.dropped reason, lanes_count (record w { journals = nexts }) (record w { journals = pasts }) refl refl (Dropped reason));
      handed_over = h.handed_over;
    }

-- there are as many empty queues as journals
same_queues : (pasts : List Journal) → length (no_queues pasts) ≡ length pasts
same_queues [] = refl
same_queues (past ∷ pasts) = ap suc (same_queues pasts)

-- the batches are sent
pub sends_released : (s : Settings) (sizes : Sizes) (w : ScriptWorld) (pasts : List Journal) (asked : List Asking) (released : List Arrival) (k : Core) (batches : List SentBatch) (sink : LineSinkState) → 0 < sizes.batch
    → Shipped s w (no_queues pasts) pasts released k → (w.closed ≡ false → AllByRecursion HasNoEnd pasts) → (w.closed ≡ true → AllByRecursion (Finished s) pasts) → SendsInBatches sizes.batch w.sink released batches sink
    → Reaches s sizes k (record w { journals = pasts; askings = asked; events = w.events ++ map was_sent batches; sink = sink }) (no_queues pasts)
sends_released s sizes w pasts asked released k batches sink holds h runs finished b = (run.0, after, run.1, stands)
  where
    c : CoreConfig
    c = core_config s sizes

    all : SentAll c k batches w.sink sink k.handed k.counted
    all = sends_all c k batches w.sink sink k.handed k.counted (batches_fit sizes.batch batches holds b.are_batches) b.sends

    after : Core
    after = sending c k [] [] (k.handed ++ handed_in (map was_sent batches)) all.counted sink.is_down

    new : ScriptWorld
    new = record w { journals = pasts; askings = asked; events = w.events ++ map was_sent batches; sink = sink }

    begins : k ≡ sending c k (spans_of batches) [] k.handed k.counted w.sink.is_down
    begins = ap (λ (z : List Arrival). sending c k z k.batch k.handed k.counted k.down) (h.exported ∙ sym b.are_all)
        ∙ (ap (λ (z : List Arrival). sending c k (spans_of batches) z k.handed k.counted k.down) h.batch ∙ ap (λ z. sending c k (spans_of batches) [] k.handed k.counted z) h.down)

    run : Leads c k after
    run = leads_then c k _ after (leads_same c k _ begins) all.leads

    same_lanes : lanes_from w 0 (length w.contacts.connected) ≡ lanes_from new 0 (length w.contacts.connected)
    same_lanes = lanes_same w new refl refl 0 (length w.contacts.connected)

    stands : Stands s sizes new (no_queues pasts) after
    stands = record {
      lanes = h.lanes ∙ same_lanes;
      senders = h.senders;
      same = same_queues pasts;
      shards = h.shards;
      exported = refl;
      batch = refl;
      handed = ap (λ (z : List (List Arrival)). z ++ handed_in (map was_sent batches)) h.handed ∙ sym (handed_append w.events (map was_sent batches));
      down = refl;
      dropped = λ reason. omega (arith, all.counts_more reason, h.dropped reason, sum_by-append (counted_at (Dropped reason)) w.events (map was_sent batches), lanes_count new (record w { journals = pasts }) refl refl (Dropped reason));
      handed_over = omega (arith, h.handed_over, spans_append k.handed (handed_in (map was_sent batches)), handed_counted batches w.sink sink b.sends, sum_by-append (counted_at Handed) w.events (map was_sent batches));
      «open» = runs;
      closed = λ e. is_closed c s w after pasts (length w.contacts.connected) (settings_are s sizes w after h.lanes h.senders) e h.lanes h.shards refl refl (finished e);
    }

-- what a run to quiet reaches is reached after further steps before it
pub reaches_after : (s : Settings) (sizes : Sizes) (k mid : Core) (new : ScriptWorld) (queues : List (List Arrival)) → Leads (core_config s sizes) k mid → Reaches s sizes mid new queues → Reaches s sizes k new queues
reaches_after s sizes k mid new queues h r = let run = leads_then (core_config s sizes) k mid r.1 h (r.0, r.2) in (run.0, r.1, run.1, r.3)
