-- More wrong definitions of what a script means, each with a run that breaks the law that each script is a run of the
-- core. No clause needs them, as with those of `WrongDefinitions`.
use Rattle.std.proofs.Common.{inr, ◌≡◌, ℕ, ◌+◌, ◌&&◌, ◌||◌, Bool, true, false, not, cond, List, [], ◌∷◌, ◌++◌, length, map, filter, flat_map, slice_get, Some, refl, ap, sym, subst, ◌∙◌, arith}
use Rattle.std.specs.Prelude.{IsTrue}
use Rattle.std.specs.List.{list_all, list_any, sum_by}
use Rattle.world_theory.proofs.WaitingPlaces.{not_waiting, buffered_waits}
use Rattle.journal_theory.proofs.Counted.{same_reason}
use Rattle.otlp_types.specs.declared.arrival.Arrival.{Arrival}
use Rattle.otlp_types.specs.declared.arrival.Item.TheVariants.{Span, End}
use Rattle.span_ids.specs.declared.outcome.Reason.{Reason}
use Rattle.span_ids.specs.declared.outcome.Reason.TheVariants.{InvalidId, QueueFull, NoMemory, Evicted, NotSampled, LateNotSampled, ExporterDown}
use Rattle.drop_ledger.specs.declared.count.Count.{Count}
use Rattle.drop_ledger.specs.declared.count.Count.TheVariants.{Received, Dropped}
use Rattle.lane_queue.specs.Queues.{TakesLast, IsFull}
use Rattle.lane_seq.specs.Pushes.{Receives as IsPushed}
use Rattle.lane_seq.specs.declared.reply.Reply.{Reply}
use Rattle.lane_seq.specs.declared.reply.Reply.TheVariants.{Done, Partial}
use Rattle.journal_theory.specs.Journal.{Settings, Journal, notes}
use Rattle.journal_theory.specs.Fate.{DroppedSpan, Fate, waits, fate, is_same_reason, under}
use Rattle.world_theory.specs.World.{CoreLane, CoreShard, settings, has_due, same_key}
use Rattle.world_theory.specs.Step.{is_empty}
use Rattle.world_theory.specs.Places.{HeldKey, unrouted, queued, buffered, unshipped, exported, in_batch, handed, counted_under, held_at, buffered_spans, held_by_lanes, held_by_shards, held}
use Rattle.world_theory.specs.Headline.{TakenSpan, fate_of, is_where, is_received}
use Rattle.world_theory.proofs.Samples.{ids_of, key}
use Rattle.tsc_script.specs.Instructions.{receive, close}
use Rattle.script_run.specs.Connections.{connection_of, with_received}
use Rattle.script_run.specs.Requests.{reads, IsTakenFor, arrivals_of, reply_line}
use Rattle.script_run.specs.World.{ScriptWorld, replied, Plays, PlaysAll, Receives, RepliesAndRuns, TakesRounds, empty_queues, entry_of}
use Rattle.script_run.specs.Counts.{counted_at_lanes, counted_at_shards, counted_at, number_reported}
use Rattle.script_run.specs.Writing.{handed_in}
use Rattle.script_run.specs.CoreRun.{core_config, is_quiet, IsRunBy}
use Rattle.script_run.proofs.WrongDefinitions.{own, with_queue, start, writes, silent, span, of_one_span, done_line, queued_span, span_pushed, some_lane, one_shard, own_settings}

-- ---- what was received uses no numbers of its connection

-- the one span found its queue full
abbrev full_reply : Reply
full_reply = Partial 1 0 1

abbrev full_line : List ℕ
full_line = reply_line full_reply

-- the request was received, and the connection goes on with the number that it had
abbrev received_again : ScriptWorld → ScriptWorld
received_again old = record old { contacts = with_received 0 0 old.contacts; received = old.received ++ arrivals_of (connection_of 0 old.contacts) 0 of_one_span; full = old.full + 1 }

abbrev used_once : ScriptWorld
used_once = record start {
  contacts = with_received 0 0 start.contacts;
  received = span ∷ [];
  full = 1;
  events = replied full_reply ∷ [];
  sink = record { taken = Some full_line; failures = 0; is_down = false };
}

abbrev used_again : ScriptWorld
used_again = record used_once {
  received = span ∷ span ∷ [];
  full = 2;
  events = replied full_reply ∷ replied full_reply ∷ [];
  sink = record { taken = Some (full_line ++ full_line); failures = 0; is_down = false };
}

-- the shard takes nothing in a round
idle_round : TakesRounds own ([] ∷ []) [] (([] ∷ []) ∷ []) ([] ∷ []) [] []
idle_round = ([] ∷ [], [], [], [], ([], [], [], (refl, refl), (refl, refl), refl), (refl, refl, refl), refl)

used_once_played : RepliesAndRuns own (with_queue 0) (received_again start) full_reply (([] ∷ []) ∷ []) used_once
unfolding notes
used_once_played = (used_once.sink, writes [] full_line, silent (with_queue 0) used_once ([] ∷ []) _ idle_round)

used_again_played : RepliesAndRuns own (with_queue 0) (received_again used_once) full_reply (([] ∷ []) ∷ []) used_again
unfolding notes
used_again_played = (used_again.sink, writes full_line full_line, silent (with_queue 0) used_again ([] ∷ []) _ idle_round)

numbers_used_again : IsRunBy number_reported handed_in own (with_queue 0) 1 1 used_again → ⊥
numbers_used_again law =
    let at = some_lane law.core.lanes 1 (law.counts Received) in
    let there : slice_get law.core.lanes 0 ≡ Some at.first = ap (λ (lanes : List CoreLane). slice_get lanes 0) at.are in
    let k = law.holds.one_place.numbered 0 at.first (span ∷ []) [] span there (law.received 0 at.first there) in
    let z : 0 ≡ 1 = k.1 in absurd (omega (arith, z))

-- ---- spans that find their queue full are counted nowhere

abbrev not_full : ScriptWorld → Count → ℕ
not_full w (Dropped QueueFull) = 0
not_full w count = counted_at_lanes w count

abbrev number_but_full : Settings → ScriptWorld → Count → ℕ
number_but_full s w count = not_full w count + (counted_at_shards s w.journals count + sum_by (counted_at count) w.events)

abbrev full_world : ScriptWorld
full_world = record used_once { contacts = with_received 0 1 start.contacts }

full_played : (body : List ℕ) → IsTakenFor false body (reads of_one_span) → PlaysAll own (with_queue 0) start (receive 0 0 body ∷ []) full_world
unfolding notes
full_played body taken = (full_world, (refl, refl, inr (reads of_one_span, taken, (full_reply, empty_queues 0 1, refused, (full_world.sink, writes [] full_line, silent (with_queue 0) full_world ([] ∷ []) _ idle_round)))), refl)
  where
    refused : IsPushed TakesLast IsFull (arrivals_of (connection_of 0 start.contacts) 0 of_one_span) (empty_queues 0 1) full_reply (empty_queues 0 1)
    refused = record { refused = 1; pushed = (1, 0, empty_queues 0 1, refl, inr (refl, (record { items = []; capacity = 0 }, record { items = []; capacity = 0 }, refl, (refl, refl), refl)), (refl, refl)); replied = (refl, refl, refl, omega arith) }

-- a list of counts in which no reason has one is empty
none_counted : (counted : List DroppedSpan) → ((r : Reason) → length (under r counted) ≡ 0) → counted ≡ []
none_counted [] h = refl
none_counted (d ∷ rest) h = absurd (go (is_same_reason d.reason d.reason) (same_reason d.reason) (h d.reason))
  where
    go : (b : Bool) → b ≡ true → length (map (λ (n : DroppedSpan). n.key) (cond b (d ∷ filter (λ (n : DroppedSpan). is_same_reason n.reason d.reason) rest) (filter (λ (n : DroppedSpan). is_same_reason n.reason d.reason) rest))) ≡ 0 → ⊥
    go true e f = omega (arith, f)
    go false e f = cc e

-- lanes and a shard in which nothing waits hold nothing, but for a buffer
none_unrouted : (n : ℕ) (lanes : List CoreLane) → list_all (λ (l : CoreLane). is_empty l.unrouted) lanes ≡ true → held_by_lanes n lanes ≡ []
none_unrouted n [] e = refl
none_unrouted n (l ∷ ls) e = go l.unrouted e (none_unrouted (n + 1) ls)
  where
    go : (spans : List Arrival) → (is_empty spans && list_all (λ (l : CoreLane). is_empty l.unrouted) ls) ≡ true → (list_all (λ (l : CoreLane). is_empty l.unrouted) ls ≡ true → held_by_lanes (n + 1) ls ≡ []) → held_at (unrouted n) spans ++ held_by_lanes (n + 1) ls ≡ []
    go [] f more = more f
    go (a ∷ spans) f more = absurd (cc f)

none_inside : (sh : CoreShard) → sh.journal ≡ [] → list_all (is_quiet own) (sh ∷ []) ≡ true → held_by_shards own 0 (sh ∷ []) ≡ []
none_inside sh e f = go sh.queue (not (has_due own sh)) sh.unshipped f (held_at (buffered 0) (buffered_spans own sh.journal sh.dealt)) (ap (λ (past : Journal). held_at (buffered 0) (buffered_spans own past sh.dealt)) e)
  where
    go : (queue : List Arrival) (b : Bool) (out : List Arrival) → ((is_empty queue && b && is_empty out) && true) ≡ true → (inside : List HeldKey) → inside ≡ [] → (held_at (queued 0) queue ++ inside ++ held_at (unshipped 0) out) ++ [] ≡ []
    go [] true [] g inside h = ap (λ (keys : List HeldKey). (keys ++ []) ++ []) h
    go [] true (a ∷ out) g inside h = absurd (cc g)
    go [] false out g inside h = absurd (cc g)
    go (a ∷ queue) b out g inside h = absurd (cc g)

full_queue_uncounted : IsRunBy number_but_full handed_in own (with_queue 0) 1 1 full_world → ⊥
unfolding notes
full_queue_uncounted law =
    let c = core_config own (with_queue 0) in
    let k = law.core in
    let same = own_settings law.steps (with_queue 0) k law.runs in
    let shard = one_shard k.shards [] law.journals in
    let quiet = subst (λ (s : Settings). list_all (is_quiet s) (shard.one ∷ []) ≡ true) same (subst (λ (shards : List CoreShard). list_all (is_quiet (settings c k)) shards ≡ true) shard.are law.between.taken) in
    let inside : held_by_shards (settings c k) 0 k.shards ≡ [] = ap (λ (shards : List CoreShard). held_by_shards (settings c k) 0 shards) shard.are ∙ ap (λ (s : Settings). held_by_shards s 0 (shard.one ∷ [])) same ∙ none_inside shard.one shard.journal quiet in
    let counted : k.counted ≡ [] = none_counted k.counted (λ r. law.counts (Dropped r) ∙ none r) in
    let all : held c k ≡ [] = ap (λ (keys : List HeldKey). keys ++ held_by_shards (settings c k) 0 k.shards ++ held_at exported k.exported ++ held_at in_batch k.batch ++ flat_map (held_at handed) k.handed ++ map place_of k.counted) (none_unrouted 0 k.lanes law.between.routed)
    ∙ ap (λ (keys : List HeldKey). keys ++ held_at exported k.exported ++ held_at in_batch k.batch ++ flat_map (held_at handed) k.handed ++ map place_of k.counted) inside
    ∙ ap (λ (spans : List Arrival). held_at exported spans ++ held_at in_batch k.batch ++ flat_map (held_at handed) k.handed ++ map place_of k.counted) law.between.pulled
    ∙ ap (λ (spans : List Arrival). held_at in_batch spans ++ flat_map (held_at handed) k.handed ++ map place_of k.counted) law.between.sent
    ∙ ap (λ (batches : List (List Arrival)). flat_map (held_at handed) batches ++ map place_of k.counted) law.handed
    ∙ ap (map place_of) counted in
    let at = some_lane k.lanes 0 (law.counts Received) in
    let there : slice_get k.lanes 0 ≡ Some at.first = ap (λ (lanes : List CoreLane). slice_get lanes 0) at.are in
    let was : is_received k (key 0) ≡ true = ap (λ (lanes : List CoreLane). list_any (λ (l : CoreLane). list_any (λ (a : Arrival). same_key a.key (key 0)) l.received) lanes) at.are
    ∙ ap (λ (spans : List Arrival). list_any (λ (a : Arrival). same_key a.key (key 0)) spans || list_any (λ (l : CoreLane). list_any (λ (a : Arrival). same_key a.key (key 0)) l.received) at.others) (law.received 0 at.first there) in
    let placed = law.holds.one_place.received (key 0) was in
    let z : 0 ≡ 1 = sym (ap (λ (keys : List HeldKey). length (map (λ (h : HeldKey). h.place) (filter (λ (h : HeldKey). same_key h.key (key 0)) keys))) all) ∙ placed in
    absurd (omega (arith, z))
  where
    place_of : DroppedSpan → HeldKey
    place_of n = record { place = counted_under n.reason; key = n.key }

    none : (r : Reason) → number_but_full own full_world (Dropped r) ≡ 0
    none InvalidId = refl
    none QueueFull = refl
    none NoMemory = refl
    none Evicted = refl
    none NotSampled = refl
    none LateNotSampled = refl
    none ExporterDown = refl

-- ---- a line is played behind a close

abbrev ends : Journal
ends = entry_of (End 1) false false ∷ entry_of (End 0) false false ∷ []

abbrev closed_world : ScriptWorld
closed_world = record start { journals = ends ∷ []; closed = true }

close_played : Plays own (with_queue 1) start close closed_world
unfolding notes
close_played = (
  refl,
  silent (with_queue 1) (record start { closed = true }) closed_world.journals _ (
    (entry_of (End 0) false false ∷ []) ∷ [],
    [],
    [],
    [],
    ([], [], [], ((false, false, refl, refl), refl), (refl, refl), refl),
    (closed_world.journals, [], [], [], ([], [], [], ((false, false, refl, refl), refl), (refl, refl), refl), (refl, refl, refl), refl),
    refl,
  ),
)

-- a request is read where nothing asks whether the script was closed
abbrev late_world : ScriptWorld
late_world = record closed_world {
  contacts = with_received 0 1 start.contacts;
  received = span ∷ [];
  journals = (entry_of (Span span) false false ∷ ends) ∷ [];
  events = replied (Done 1) ∷ [];
  sink = record { taken = Some done_line; failures = 0; is_down = false };
}

late_played : (body : List ℕ) → IsTakenFor false body (reads of_one_span) → Receives own (with_queue 1) closed_world 0 0 body late_world
unfolding notes
late_played body taken = inr (reads of_one_span, taken, (Done 1, queued_span ∷ [], span_pushed, (late_world.sink, writes [] done_line, silent (with_queue 1) (record late_world { journals = ends ∷ [] }) late_world.journals _ takes)))
  where
    takes : TakesRounds own (ends ∷ []) [] (((Span span ∷ []) ∷ []) ∷ []) late_world.journals [] []
    takes = (late_world.journals, [], [], [], ([], [], [], ((false, false, refl, refl), refl), (refl, refl), refl), (refl, refl, refl), refl)

abbrev fate_by : Settings → Journal → Fate
fate_by s past = fate s past ends false (ids_of 1)

played_after_a_close : IsRunBy number_reported handed_in own (with_queue 1) 1 1 late_world → ⊥
unfolding notes
played_after_a_close law =
    let c = core_config own (with_queue 1) in
    let k = law.core in
    let past : Journal = entry_of (Span span) false false ∷ ends in
    let shard = one_shard k.shards past law.journals in
    let taken : TakenSpan k = record { shard = 0; of = shard.one; in_world = ap (λ (shards : List CoreShard). slice_get shards 0) shard.are; arrival = span; ids = ids_of 1; valid = refl; refused = false; lost = false; answers = []; later = []; before = ends; split = shard.journal } in
    let fits = law.holds.fits taken in
    let waiting : fate_of c k taken ≡ waits = ap (λ (s : Settings). fate_by s shard.one.journal) (own_settings law.steps (with_queue 1) k law.runs) ∙ ap (fate_by own) shard.journal in
    buffered_waits fits.0 (has_due (settings c k) shard.one)
    (subst (λ (f : Fate). IsTrue (is_where 0 (has_due (settings c k) shard.one) f fits.0)) waiting fits.2)
    (not_waiting span.key fits.0 (held c k) (law.closed refl).nothing_waits fits.1)
