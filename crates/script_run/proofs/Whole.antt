-- What makes a played script a run of the core, from how the core stands.
-- For the contract of `scripts_are_runs_of_the_core`.
use Rattle.std.proofs.Common.{◌≡◌, ℕ, zero, suc, ◌+◌, ◌<◌, ◌≤◌, Bool, true, false, cond, not, ◌&&◌, ◌==◌, List, [], ◌∷◌, length, map, filter, flat_map, replicate, slice_get, Some, refl, ap, sym, ◌∙◌, arith, eqb-true, le-ltb}
use Rattle.std.specs.List.{list_all, sum_by, AllByRecursion}
use Rattle.std.proofs.lemmas.List.{length-append, length-replicate}
use Rattle.std.proofs.lemmas.List.Sums.{sum_by-cons}
use Rattle.std.proofs.lemmas.Bool.{eqb-false}
use Rattle.otlp_types.specs.declared.arrival.Arrival.{Arrival}
use Rattle.span_ids.specs.declared.outcome.Reason.{Reason}
use Rattle.span_ids.specs.declared.outcome.Reason.TheVariants.{InvalidId, QueueFull, NoMemory, Evicted, NotSampled, LateNotSampled, ExporterDown}
use Rattle.journal_theory.specs.Journal.{Settings, Journal, due_now}
use Rattle.journal_theory.proofs.ListFacts.{Each, tally, length_filter}
use Rattle.span_exporter.specs.declared.answer.Flushed.{Flushed}
use Rattle.span_exporter.specs.declared.answer.Flushed.TheVariants.{Handed as WasHanded, BatchDropped, Empty}
use Rattle.span_sink.specs.LineSinks.{LineSinkState}
use Rattle.world_theory.specs.World.{CoreConfig, CoreLane, CoreShard, World as Core, KeepsATrace, new_lane, new_shard, new_world as new_core, settings, has_due}
use Rattle.world_theory.specs.Step.{Step, run, is_empty}
use Rattle.world_theory.proofs.Parts.{headline}
use Rattle.drop_ledger.specs.declared.count.Count.{Count}
use Rattle.drop_ledger.specs.declared.count.Count.TheVariants.{Received, Handed, Dropped}
use Rattle.script_run.specs.World.{ScriptWorld, Sizes, OutputEvent, replied, was_sent, new_world}
use Rattle.script_run.specs.Counts.{counted_at, counted_for, dropped_by_journal, number_reported}
use Rattle.script_run.specs.CoreRun.{core_config, count_in, is_of_lane, is_quiet, WaitsInBuffers, IsRunOfCore}
use Rattle.script_run.specs.Laws.{CanPlay, EachIsARunOfCore}
use Rattle.script_run.proofs.Stands.{quiet_shard, shards_with, routed_lane, lanes_from, no_queues, HasNoEnd, Stands}
use Rattle.script_run.proofs.Numbering.{IsHad, KnowsConnections, knows_new}
use Rattle.script_run.proofs.Receiving.{many_queues}
use Rattle.script_run.proofs.Playing.{ShardsAndExporter, plays_all}

-- ---- before the first line

-- the lanes of a new core
new_lanes : (w : ScriptWorld) (first many : ℕ) → w.received ≡ [] → w.closed ≡ false → replicate many new_lane ≡ lanes_from w first many
new_lanes w first zero e f = refl
new_lanes w first (suc many) e f =
    let one : new_lane ≡ routed_lane w first = λ i. record { received = sym (ap (filter (is_of_lane first)) e) i; unrouted = []; ended = sym f i } in
    ap (λ (z : CoreLane). z ∷ replicate many new_lane) one ∙ ap (λ (z : List CoreLane). routed_lane w first ∷ z) (new_lanes w (first + 1) many e f)

-- the shards of a new core
new_shards : (s : Settings) (many : ℕ) → replicate many new_shard ≡ shards_with s (no_queues (replicate many [])) (replicate many [])
new_shards s zero = refl
new_shards s (suc many) = ap (λ (z : List CoreShard). new_shard ∷ z) (new_shards s many)

-- journals without an entry count nothing
nothing_dropped : (s : Settings) (reason : Reason) (many : ℕ) → sum_by (dropped_by_journal s reason) (replicate many []) ≡ 0
nothing_dropped s reason zero = refl
nothing_dropped s reason (suc many) = omega (arith, sum_by-cons (dropped_by_journal s reason) [] (replicate many []), nothing_dropped s reason many)

-- journals without an entry have no End
no_ends : (many : ℕ) → AllByRecursion HasNoEnd (replicate many [])
no_ends zero = tt
no_ends (suc many) = ((λ sender. refl), no_ends many)

-- the new core stands as the new world says
stands_new : (s : Settings) (sizes : Sizes) (lanes shards : ℕ) (first : LineSinkState) → CanPlay s sizes lanes → first.is_down ≡ false
    → Stands s sizes (new_world lanes shards first) (no_queues (replicate shards [])) (new_core lanes shards)
stands_new s sizes lanes shards first can up =
    let w = new_world lanes shards first in
    let none : List ℕ = replicate lanes 0 in
    let long : length none ≡ lanes = length-replicate lanes 0 in
    record {
      lanes = new_lanes w 0 lanes refl refl ∙ ap (λ (n : ℕ). lanes_from w 0 n) (sym long);
      senders = can.senders ∙ ap (λ (n : ℕ). n + 1) (sym long);
      same = many_queues (replicate shards []);
      shards = new_shards s shards;
      exported = refl;
      batch = refl;
      handed = refl;
      down = sym up;
      dropped = dropped;
      handed_over = refl;
      «open» = λ e. no_ends shards;
      closed = λ e. absurd (cc e);
    }
  where
    dropped : (reason : Reason) → ◌≡◌ {A = ℕ} 0 (number_reported s (new_world lanes shards first) (Dropped reason))
    dropped InvalidId = omega (arith, nothing_dropped s InvalidId shards)
    dropped QueueFull = omega (arith, nothing_dropped s QueueFull shards)
    dropped NoMemory = omega (arith, nothing_dropped s NoMemory shards)
    dropped Evicted = omega (arith, nothing_dropped s Evicted shards)
    dropped NotSampled = omega (arith, nothing_dropped s NotSampled shards)
    dropped LateNotSampled = omega (arith, nothing_dropped s LateNotSampled shards)
    dropped ExporterDown = omega (arith, nothing_dropped s ExporterDown shards)

-- ---- what the lanes received

-- a lane has its part of what was received
lane_received : (w : ScriptWorld) (first many i : ℕ) (l : CoreLane) (lane : ℕ) → lane ≡ first + i → slice_get (lanes_from w first many) i ≡ Some l → l.received ≡ filter (is_of_lane lane) w.received
lane_received w first zero i l lane e g = absurd (cc g)
lane_received w first (suc many) zero l lane e g =
    let same : routed_lane w first ≡ l = cc g in
    let at : first ≡ lane = omega (arith, e) in sym (ap (λ (z : CoreLane). z.received) same) ∙ ap (λ (n : ℕ). filter (is_of_lane n) w.received) at
lane_received w first (suc many) (suc i) l lane e g = lane_received w (first + 1) many i l lane (omega (arith, e)) g

-- how many of these came on so many lanes from this one on
abbrev came : (first many : ℕ) → List Arrival → ℕ
came first zero spans = 0
came first (suc many) spans = tally (is_of_lane first) spans + came (first + 1) many spans

-- the lanes received so many spans
lanes_came : (w : ScriptWorld) (first many : ℕ) → length (flat_map (λ (l : CoreLane). l.received) (lanes_from w first many)) ≡ came first many w.received
lanes_came w first zero = refl
lanes_came w first (suc many) = omega (arith, length-append (filter (is_of_lane first) w.received) (flat_map (λ (l : CoreLane). l.received) (lanes_from w (first + 1) many)), length_filter (is_of_lane first) w.received, lanes_came w (first + 1) many)

-- no span came where there is none
none_came : (first many : ℕ) → came first many [] ≡ 0
none_came first zero = refl
none_came first (suc many) = omega (arith, none_came (first + 1) many)

-- a span of a lane before these is not among theirs
came_before : (first many : ℕ) (a : Arrival) (rest : List Arrival) → a.key.conn.lane < first → came first many (a ∷ rest) ≡ came first many rest
came_before first zero a rest h = refl
came_before first (suc many) a rest h = go (a.key.conn.lane == first) refl (came_before (first + 1) many a rest (omega (arith, h)))
  where
    go : (b : Bool) → (a.key.conn.lane == first) ≡ b → came (first + 1) many (a ∷ rest) ≡ came (first + 1) many rest
        → (cond {A = ℕ} b 1 0 + tally (is_of_lane first) rest) + came (first + 1) many (a ∷ rest) ≡ tally (is_of_lane first) rest + came (first + 1) many rest
    go true e f = absurd (omega (arith, h, eqb-true a.key.conn.lane first e))
    go false e f = omega (arith, f)

-- a span of one of these lanes is once among theirs
came_within : (first many : ℕ) (a : Arrival) (rest : List Arrival) → first ≤ a.key.conn.lane → a.key.conn.lane < first + many → came first many (a ∷ rest) ≡ 1 + came first many rest
came_within first zero a rest h g = absurd (omega (arith, h, g))
came_within first (suc many) a rest h g = go (a.key.conn.lane == first) refl (λ above. came_within (first + 1) many a rest above (omega (arith, g)))
  where
    go : (b : Bool) → (a.key.conn.lane == first) ≡ b → (first + 1 ≤ a.key.conn.lane → came (first + 1) many (a ∷ rest) ≡ 1 + came (first + 1) many rest)
        → (cond {A = ℕ} b 1 0 + tally (is_of_lane first) rest) + came (first + 1) many (a ∷ rest) ≡ 1 + (tally (is_of_lane first) rest + came (first + 1) many rest)
    go true e f = omega (arith, came_before (first + 1) many a rest (omega (arith, eqb-true a.key.conn.lane first e)))
    go false e f =
        let apart : a.key.conn.lane ≡ first → ⊥ = eqb-false a.key.conn.lane first e in
        let above : first + 1 ≤ a.key.conn.lane = omega (arith, h, apart) in omega (arith, f above)

-- all that came on connections of the lanes came on the lanes
all_came : (connected : List ℕ) (spans : List Arrival) → Each (λ (a : Arrival). IsHad connected a.key.conn) spans → came 0 (length connected) spans ≡ length spans
all_came connected [] h = none_came 0 (length connected)
all_came connected (a ∷ rest) h = omega (arith, came_within 0 (length connected) a rest (omega arith) (omega (arith, h.0.0)), all_came connected rest h.1)

-- events count no span as received
none_for : (flushed : Flushed) → counted_for Received flushed ≡ 0
none_for (WasHanded spans) = refl
none_for (BatchDropped spans why) = refl
none_for Empty = refl

-- no event counts a span as received
none_at : (event : OutputEvent) → counted_at Received event ≡ 0
none_at (replied reply) = refl
none_at (was_sent sent) = none_for sent.flushed

-- nor do several
no_events_count : (events : List OutputEvent) → sum_by (counted_at Received) events ≡ 0
no_events_count [] = refl
no_events_count (event ∷ more) = omega (arith, sum_by-cons (counted_at Received) event more, none_at event, no_events_count more)

-- ---- what waits

-- no lane has a span to route
all_routed : (w : ScriptWorld) (first many : ℕ) → list_all (λ (l : CoreLane). is_empty l.unrouted) (lanes_from w first many) ≡ true
all_routed w first zero = refl
all_routed w first (suc many) = all_routed w (first + 1) many

-- there are so many lanes
many_lanes : (w : ScriptWorld) (first many : ℕ) → length (lanes_from w first many) ≡ many
many_lanes w first zero = refl
many_lanes w first (suc many) = omega (arith, many_lanes w (first + 1) many)

-- nothing is due where all that was due was dealt with
none_due : (s : Settings) (past : Journal) → has_due s (quiet_shard s [] past) ≡ false
none_due s past = le-ltb (length (due_now s past)) (length (due_now s past)) (omega arith)

-- every shard is quiet
all_quiet : (s : Settings) (pasts : List Journal) → list_all (is_quiet s) (shards_with s (no_queues pasts) pasts) ≡ true
all_quiet s [] = refl
all_quiet s (past ∷ pasts) = ap (λ (b : Bool). (true && not b && true) && list_all (is_quiet s) (shards_with s (no_queues pasts) pasts)) (none_due s past) ∙ all_quiet s pasts

-- the shards have their journals
own_journals : (s : Settings) (pasts : List Journal) → map (λ (sh : CoreShard). sh.journal) (shards_with s (no_queues pasts) pasts) ≡ pasts
own_journals s [] = refl
own_journals s (past ∷ pasts) = ap (λ (z : List Journal). past ∷ z) (own_journals s pasts)

-- ---- a run of the core

module _ (s : Settings) (sizes : Sizes) (w : ScriptWorld) (k : Core) (st : Stands s sizes w (no_queues w.journals) k) (known : KnowsConnections w) where
  -- the core's configuration
  abbrev c : CoreConfig
  c = core_config s sizes

  -- the core's settings are the script's
  same_settings : settings c k ≡ s
  same_settings =
      let senders : length k.lanes + 1 ≡ s.senders = ap (λ (z : List CoreLane). length z + 1) st.lanes ∙ (ap (λ (n : ℕ). n + 1) (many_lanes w 0 (length w.contacts.connected)) ∙ sym st.senders) in
      λ i. record s { senders = senders i }

  -- the core's counts are the script's
  counts : (count : Count) → count_in k count ≡ number_reported s w count
  counts Received =
      let all : length (flat_map (λ (l : CoreLane). l.received) k.lanes) ≡ length w.received
      = ap (λ (z : List CoreLane). length (flat_map (λ (l : CoreLane). l.received) z)) st.lanes ∙ (lanes_came w 0 (length w.contacts.connected) ∙ all_came w.contacts.connected w.received known.came) in
      omega (arith, all, no_events_count w.events)
  counts Handed = st.handed_over
  counts (Dropped reason) = st.dropped reason

  -- all that waits is in the buffers
  waits : WaitsInBuffers c k
  waits = record {
    routed = ap (list_all (λ (l : CoreLane). is_empty l.unrouted)) st.lanes ∙ all_routed w 0 (length w.contacts.connected);
    taken = ap (λ (z : Settings). list_all (is_quiet z) k.shards) same_settings ∙ (ap (list_all (is_quiet s)) st.shards ∙ all_quiet s w.journals);
    pulled = st.exported;
    sent = st.batch;
  }

  -- the script's world is that of a run of the core
  pub is_run : (lanes shards : ℕ) (steps : List Step) → KeepsATrace c → run c lanes shards steps ≡ Some k → IsRunOfCore s sizes lanes shards w
  is_run lanes shards steps keeps e = record {
    steps = steps;
    core = k;
    runs = e;
    holds = headline c lanes shards steps k keeps e;
    received = λ lane l g. lane_received w 0 (length w.contacts.connected) lane l lane (omega arith) (ap (λ (z : List CoreLane). slice_get z lane) (sym st.lanes) ∙ g);
    journals = ap (map (λ (sh : CoreShard). sh.journal)) st.shards ∙ own_journals s w.journals;
    handed = st.handed;
    down = st.down;
    counts = counts;
    between = waits;
    closed = st.closed;
  }

-- the law, from what the shards and the exporter do
pub each_is_a_run : ((s : Settings) (sizes : Sizes) → 0 < sizes.batch → ShardsAndExporter s sizes) → EachIsARunOfCore
each_is_a_run facts s sizes lanes shards first played after can up r =
    let f = plays_all s sizes (facts s sizes can.batch) played (new_world lanes shards first) after (new_core lanes shards) (stands_new s sizes lanes shards first can up) (knows_new lanes can.some_lane) r in
    is_run s sizes after f.0.1 f.0.3 f.1 lanes shards f.0.0 can.keeps f.0.2
