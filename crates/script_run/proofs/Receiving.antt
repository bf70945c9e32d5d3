-- A request's spans reach their queues by steps of the core.
-- For the contract of `scripts_are_runs_of_the_core`.
use Rattle.std.proofs.Common.{◌≡◌, ℕ, ◌+◌, ◌<◌, false, cond, not, is_some, is_none, List, [], ◌∷◌, ◌++◌, length, filter, count_by, slice_get, slice_set, Option, Some, None, refl, ap, sym, ◌∙◌, arith}
use Rattle.std.proofs.lemmas.List.{length-append, append-nil, set-set}
use Rattle.std.proofs.lemmas.List.Elements.{filter-append}
use Rattle.journal_theory.proofs.Counted.{under_append, under_counts}
use Rattle.otlp_types.specs.declared.arrival.Arrival.{Arrival}
use Rattle.otlp_types.specs.declared.arrival.Record.{Record}
use Rattle.otlp_types.specs.declared.arrival.Item.{Item}
use Rattle.otlp_types.specs.declared.request.Request.{Request}
use Rattle.otlp_types.specs.declared.span.Ids.{Ids}
use Rattle.otlp_flatten.specs.Flat.{records_of}
use Rattle.span_ids.specs.declared.keys.ConnKey.{ConnKey}
use Rattle.span_ids.specs.declared.outcome.Reason.{Reason}
use Rattle.span_ids.specs.declared.outcome.Reason.TheVariants.{InvalidId, QueueFull, NoMemory, Evicted, NotSampled, LateNotSampled, ExporterDown}
use Rattle.lane_queue.specs.Queues.{QueueState, TakesLast, IsFull}
use Rattle.lane_seq.specs.declared.reply.Reply.{Reply}
use Rattle.lane_seq.specs.Numbers.{arrivals_from, is_invalid}
use Rattle.lane_seq.specs.Pushes.{Receives as IsPushed}
use Rattle.journal_theory.specs.Journal.{Settings, Journal}
use Rattle.journal_theory.specs.Fate.{DroppedSpan, counts, is_same_reason}
use Rattle.journal_theory.proofs.ListFacts.{tally}
use Rattle.world_theory.specs.World.{CoreLane, World as Core}
use Rattle.world_theory.specs.Step.{receive, step, arrivals, is_of_conn, has_ids}
use Rattle.world_theory.proofs.Arriving.{receives}
use Rattle.world_theory.proofs.Received.{count_is}
use Rattle.world_theory.proofs.Released.{get_set}
use Rattle.drop_ledger.specs.declared.count.Count.TheVariants.{Dropped}
use Rattle.script_run.specs.Connections.{Contacts, connection_of, with_received}
use Rattle.script_run.specs.Requests.{arrivals_of}
use Rattle.script_run.specs.World.{ScriptWorld, Sizes, empty_queues, after_receiving}
use Rattle.script_run.specs.Counts.{counted_at_lanes}
use Rattle.script_run.specs.CoreRun.{core_config, is_of_lane}
use Rattle.script_run.proofs.Stands.{routed_lane, lanes_from, no_queues, Stands, Reaches}
use Rattle.script_run.proofs.Numbering.{KnowsConnections, is_there}
use Rattle.script_run.proofs.Lanes.{runs_on, same_arrivals, filter_same, filter_own, filter_other, tally_on_lane, lane_at, lanes_set}
use Rattle.script_run.proofs.Routing.{held_in, as_items, Pushed, pushes}

-- ---- a connection that is there

-- how the core stands doesn't depend on the connections, but on how many lanes there are
pub with_contacts : (s : Settings) (sizes : Sizes) (w : ScriptWorld) (contacts : Contacts) (queues : List (List Arrival)) (k : Core) → length contacts.connected ≡ length w.contacts.connected
    → Stands s sizes w queues k → Stands s sizes (record w { contacts = contacts }) queues k
with_contacts s sizes w contacts queues k e st = record {
  lanes = st.lanes ∙ ap (λ (n : ℕ). lanes_from w 0 n) (sym e);
  senders = st.senders ∙ ap (λ (n : ℕ). n + 1) (sym e);
  same = st.same;
  shards = st.shards;
  exported = st.exported;
  batch = st.batch;
  handed = st.handed;
  down = st.down;
  dropped = st.dropped;
  handed_over = st.handed_over;
  «open» = st.«open»;
  closed = st.closed;
}

-- ---- empty queues

-- empty queues hold no spans
empty_held : (capacity : ℕ) (pasts : List Journal) → held_in (empty_queues capacity (length pasts)) ≡ as_items (no_queues pasts)
empty_held capacity [] = refl
empty_held capacity (past ∷ pasts) = ap (λ (z : List (List Item)). [] ∷ z) (empty_held capacity pasts)

-- there is an empty queue for each journal
pub many_queues : (pasts : List Journal) → length (no_queues pasts) ≡ length pasts
many_queues [] = refl
many_queues (past ∷ pasts) = omega (arith, many_queues pasts)

-- ---- counts

-- ids that are not there are missing
without_ids : (o : Option Ids) → not (is_some o) ≡ is_none o
without_ids None = refl
without_ids (Some ids) = refl

-- spans without valid ids are counted
pub invalid_same : (spans : List Arrival) → filter (λ a. not (has_ids a)) spans ≡ filter is_invalid spans
invalid_same spans = filter_same (λ (a : Arrival). not (has_ids a)) is_invalid (λ a. without_ids a.rec.span.ids) spans

-- what the lanes count of further spans
lanes_count : (old new : ScriptWorld) (spans : List Arrival) (refused : ℕ) → new.received ≡ old.received ++ spans → new.full ≡ old.full + refused → (reason : Reason)
    → counted_at_lanes new (Dropped reason) ≡ counted_at_lanes old (Dropped reason) + (cond {A = ℕ} (is_same_reason InvalidId reason) (length (filter is_invalid spans)) 0 + cond {A = ℕ} (is_same_reason QueueFull reason) refused 0)
lanes_count old new spans refused e f InvalidId =
    let parts : length (filter is_invalid new.received) ≡ length (filter is_invalid old.received) + length (filter is_invalid spans)
    = ap (λ (z : List Arrival). length (filter is_invalid z)) e ∙ (ap length (filter-append is_invalid old.received spans) ∙ length-append (filter is_invalid old.received) (filter is_invalid spans)) in
    omega (arith, parts)
lanes_count old new spans refused e f QueueFull = omega (arith, f)
lanes_count old new spans refused e f NoMemory = refl
lanes_count old new spans refused e f Evicted = refl
lanes_count old new spans refused e f NotSampled = refl
lanes_count old new spans refused e f LateNotSampled = refl
lanes_count old new spans refused e f ExporterDown = refl

-- ---- the request

-- the queues hold what was pushed, and the core stands with them
pub record ReachesQueues (s : Settings) (sizes : Sizes) (k : Core) (new : ScriptWorld) (pushed : List (QueueState Item)) : Type 0 where
  pub queues : List (List Arrival)
  pub holds : held_in pushed ≡ as_items queues
  pub reaches : Reaches s sizes k new queues

module _ (s : Settings) (sizes : Sizes) (old : ScriptWorld) (k : Core) (st : Stands s sizes old (no_queues old.journals) k) (is_open : old.closed ≡ false)
    (key : ConnKey) (next moment : ℕ) (records : List Record) (within : key.lane < length old.contacts.connected) (number : next ≡ tally (is_of_conn key) old.received)
    (contacts : Contacts) (lanes_stay : length contacts.connected ≡ length old.contacts.connected) where
  -- the spans of the request
  abbrev spans : List Arrival
  spans = arrivals_from key next moment records

  -- the world once they were received, and so many found their queue full
  abbrev after : (refused : ℕ) → ScriptWorld
  after refused = record old { contacts = contacts; received = old.received ++ spans; full = old.full + refused }

  -- the lane before the request
  abbrev lane : CoreLane
  lane = routed_lane old key.lane

  -- the lane once it received them
  abbrev grown : CoreLane
  grown = record { received = filter (is_of_lane key.lane) (old.received ++ spans); unrouted = filter has_ids spans; ended = old.closed }

  -- what is counted then
  abbrev counted : List DroppedSpan
  counted = k.counted ++ counts InvalidId (filter is_invalid spans)

  -- the core then
  abbrev has_received : Core
  has_received = record k { lanes = slice_set k.lanes key.lane grown; counted = counted }

  -- the core has that lane
  reads : slice_get k.lanes key.lane ≡ Some lane
  reads = ap (λ (z : List CoreLane). slice_get z key.lane) st.lanes ∙ lane_at old 0 (length old.contacts.connected) key.lane key.lane within (omega arith)

  -- the spans of the step are the request's
  step_spans : arrivals key (count_by (is_of_conn key) lane.received) moment records ≡ spans
  step_spans =
      let at : count_by (is_of_conn key) lane.received ≡ next = sym (count_is key lane.received) ∙ (tally_on_lane key old.received ∙ sym number) in
      ap (λ (n : ℕ). arrivals key n moment records) at ∙ same_arrivals key next moment records

  -- the lane grows by the spans of the step
  grows : grown ≡ record lane { received = lane.received ++ arrivals key (count_by (is_of_conn key) lane.received) moment records; unrouted = [] ++ filter has_ids (arrivals key (count_by (is_of_conn key) lane.received) moment records) }
  grows =
      let part : filter (is_of_lane key.lane) (old.received ++ spans) ≡ lane.received ++ spans
      = filter-append (is_of_lane key.lane) old.received spans ∙ ap (λ (z : List Arrival). lane.received ++ z) (filter_own key next moment records) in
      (λ i. record { received = part i; unrouted = filter has_ids spans; ended = old.closed })
      ∙ ap (λ (z : List Arrival). let l : CoreLane = record { received = lane.received ++ z; unrouted = filter has_ids z; ended = old.closed } in l) (sym step_spans)

  -- the spans of the step without valid ids are counted
  counts_them : counted ≡ k.counted ++ counts InvalidId (filter (λ a. not (has_ids a)) (arrivals key (count_by (is_of_conn key) lane.received) moment records))
  counts_them = ap (λ (z : List Arrival). k.counted ++ counts InvalidId z) (sym (invalid_same spans))
      ∙ ap (λ (z : List Arrival). k.counted ++ counts InvalidId (filter (λ a. not (has_ids a)) z)) (sym step_spans)

  -- the core receives the request
  received : step (core_config s sizes) k (receive key.lane key.ordinal moment records) ≡ Some has_received
  received = receives (core_config s sizes) k key.lane key.ordinal moment records lane reads is_open grown counted grows counts_them

  -- the lanes once all is routed
  lanes_after : (refused : ℕ) → slice_set (slice_set k.lanes key.lane grown) key.lane (record grown { unrouted = [] }) ≡ lanes_from (after refused) 0 (length contacts.connected)
  lanes_after refused =
      let other : (lane : ℕ) → (lane ≡ key.lane → ⊥) → routed_lane old lane ≡ routed_lane (after refused) lane
      = λ lane n. ap (λ (z : List Arrival). let l : CoreLane = record { received = z; unrouted = []; ended = old.closed } in l)
      (sym (filter-append (is_of_lane lane) old.received spans ∙ (ap (λ (z : List Arrival). filter (is_of_lane lane) old.received ++ z) (filter_other lane key n next moment records) ∙ append-nil (filter (is_of_lane lane) old.received)))) in
      set-set k.lanes key.lane grown (record grown { unrouted = [] })
      ∙ (ap (λ (z : List CoreLane). slice_set z key.lane (routed_lane (after refused) key.lane)) st.lanes
      ∙ (lanes_set old (after refused) 0 (length old.contacts.connected) key.lane key.lane (omega arith) other
      ∙ ap (λ (n : ℕ). lanes_from (after refused) 0 n) (sym lanes_stay)))

  -- the core stands so once all was pushed
  stands_after : (refused : ℕ) (new : List (QueueState Item)) → (p : Pushed (core_config s sizes) s key.lane old.journals has_received grown refused new) → Stands s sizes (after refused) p.queues p.after
  stands_after refused new p = rw p.becomes (record {
    lanes = lanes_after refused;
    senders = st.senders ∙ ap (λ (n : ℕ). n + 1) (sym lanes_stay);
    same = p.same;
    shards = refl;
    exported = st.exported;
    batch = st.batch;
    handed = st.handed;
    down = st.down;
    dropped = λ reason. omega (arith, under_append reason counted p.counted, under_append reason k.counted (counts InvalidId (filter is_invalid spans)), under_counts reason InvalidId (filter is_invalid spans), p.number reason, st.dropped reason, lanes_count old (after refused) spans refused refl refl reason);
    handed_over = st.handed_over;
    «open» = st.«open»;
    closed = λ e. absurd (cc (is_open, e));
  })

  -- the steps that lead there
  pub reaches_after : (reply : Reply) (new : List (QueueState Item)) → (pushed : IsPushed TakesLast IsFull spans (empty_queues sizes.queue (length old.journals)) reply new) → ReachesQueues s sizes k (after pushed.refused) new
  reaches_after reply new pushed =
      let p = pushes (core_config s sizes) s key.lane old.journals spans (empty_queues sizes.queue (length old.journals)) new pushed.refused (no_queues old.journals) has_received grown
      pushed.pushed (empty_held sizes.queue old.journals) (many_queues old.journals) st.shards (get_set k.lanes key.lane lane grown reads) refl in
      record {
        queues = p.queues;
        holds = p.holds;
        reaches = (
          receive key.lane key.ordinal moment records ∷ p.steps,
          p.after,
          runs_on (core_config s sizes) k has_received p.after (receive key.lane key.ordinal moment records) p.steps received p.runs,
          stands_after pushed.refused new p,
        );
      }

-- a request's spans go to the queues of their shards
pub receives_spans : (s : Settings) (sizes : Sizes) (old : ScriptWorld) (k : Core) (number moment : ℕ) (request : Request) (reply : Reply) (queues : List (QueueState Item))
    → Stands s sizes old (no_queues old.journals) k → old.closed ≡ false → KnowsConnections old
    → (pushed : IsPushed TakesLast IsFull (arrivals_of (connection_of number old.contacts) moment request) (empty_queues sizes.queue (length old.journals)) reply queues)
    → ReachesQueues s sizes k (after_receiving number (arrivals_of (connection_of number old.contacts) moment request) pushed.refused old) queues
receives_spans s sizes old k number moment request reply queues st is_open knows pushed =
    let conn = connection_of number old.contacts in
    let spans = arrivals_of conn moment request in
    let there = is_there number old.contacts old.received knows in
    let within : conn.key.lane < length old.contacts.connected = omega (arith, (there.knows.had number conn there.found).0, there.many) in
    reaches_after s sizes old k st is_open conn.key conn.next moment (records_of request) within (there.knows.next number conn there.found)
    (with_received number (length spans) old.contacts) there.many reply queues pushed
