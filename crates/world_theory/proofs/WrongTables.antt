-- Wrong step tables, each with a run that breaks a part of the headline.
-- No contract rests on it: each shows what the table of steps says.
use Rattle.std.proofs.Common.{◌≡◌, ℕ, zero, suc, ◌<◌, Bool, true, false, not, List, [], ◌∷◌, ◌++◌, if◌then◌else◌, length, map, reverse, take, drop, slice_get, get_or, Option, Some, None, option_map, option_and_then, Contains, refl, ap, sym, subst, ◌∙◌, arith, IsTrue, length-append}
use Rattle.journal_theory.specs.Journal.{notes}
use Rattle.journal_theory.specs.Fate.{DroppedSpan, is_counted}
use Rattle.world_theory.specs.Places.{Place, counted_under}
use Rattle.otlp_types.specs.declared.arrival.Arrival.{Arrival}
use Rattle.otlp_types.specs.declared.arrival.Item.TheVariants.{Span as SpanItem, End as EndItem}
use Rattle.span_ids.specs.declared.outcome.Verdict.TheVariants.{Sampled}
use Rattle.span_ids.specs.declared.outcome.Reason.{Reason}
use Rattle.span_ids.specs.declared.outcome.Reason.TheVariants.{QueueFull, Evicted}
use Rattle.world_theory.specs.World.{CoreConfig, CoreLane, CoreShard, World, new_world, new_lane, new_shard, settings, has_due}
use Rattle.world_theory.specs.Step.{Step, receive, route, take as take_step, tick, close, end, decide, ship, pull, hand, after_taking, step}
use Rattle.world_theory.specs.Headline.{TakenSpan, WasReceived, IsNumbered, CountedWithCause, InOnePlace, PlaceFitsFate, ShipsOutput, is_where, InReceivedOrder, EndsLast, MeetsRemembered, OnlyReleased}
use Rattle.world_theory.proofs.Samples.{always, errors, configured, error, plain, recorded, ids_of, key, send}

-- a step table: the world that a step gives, where it is enabled
abbrev pub Table : Type 0
Table = CoreConfig → World → Step → Option World

-- the world that was reached, or the new world with one lane and one shard
abbrev pub reached : Option World → World
reached None = new_world 1 1
reached (Some w) = w

-- the world after these steps by a table, or None where one isn't enabled
abbrev pub run_by : Table → CoreConfig → World → List Step → Option World
run_by table c w [] = Some w
run_by table c w (s ∷ rest) = option_and_then (λ next. run_by table c next rest) (table c w s)

abbrev pub world_by : Table → CoreConfig → List Step → World
world_by table c steps = reached (run_by table c (new_world 1 1) steps)

-- the first lane and the first shard of a world
abbrev pub lane_of : World → CoreLane
lane_of w = get_or w.lanes 0 new_lane

abbrev pub shard_of_one : World → CoreShard
shard_of_one w = get_or w.shards 0 new_shard

-- ---- evicted spans, booked as if a queue had been full

abbrev pub misread : Reason → Reason
misread Evicted = QueueFull
misread r = r

abbrev pub misbooks : Table
misbooks c w s = option_map (λ (next : World). record next { counted = map (λ (n : DroppedSpan). record { reason = misread n.reason; key = n.key }) next.counted }) (step c w s)

abbrev pub of_one : CoreConfig
of_one = configured errors (Some 1) 1 1

abbrev pub misbooked : World
unfolding notes
misbooked = world_by misbooks of_one (receive 0 0 0 (error 1 ∷ error 2 ∷ []) ∷ route 0 0 ∷ route 0 0 ∷ take_step 0 false false ∷ take_step 0 false false ∷ [])

abbrev pub first_of : World → Arrival
first_of w = get_or (lane_of w).received 0 (record { key = record { conn = record { lane = 0; ordinal = 0 }; number = 0 }; moment = 0; rec = plain 1 })

pub misbooked_without_cause : CountedWithCause of_one misbooked → ⊥
unfolding notes
misbooked_without_cause h =
    let k = h (first_of misbooked) QueueFull (record { lane = 0; of = lane_of misbooked; in_world = refl; has = (0, omega arith, refl) }) refl in
    let q : true ≡ false = k.1 in cc q

abbrev pub evicted_taken : TakenSpan misbooked
unfolding notes
evicted_taken = record { shard = 0; of = shard_of_one misbooked; in_world = refl; arrival = first_of misbooked; ids = ids_of 1; valid = refl; refused = false; lost = false; answers = []; later = take 1 (shard_of_one misbooked).journal; before = []; split = refl }

pub misbooked_does_not_fit : PlaceFitsFate of_one misbooked → ⊥
unfolding notes
misbooked_does_not_fit h = go (h evicted_taken).0 (h evicted_taken).1 (h evicted_taken).2
  where
    go : (place : Place) → counted_under QueueFull ∷ [] ≡ place ∷ [] → IsTrue (is_where 0 false (is_counted Evicted) place) → ⊥
    go place e f = let q : counted_under QueueFull ≡ place = cc e in let z : false ≡ true = ap (is_where 0 false (is_counted Evicted)) q ∙ f in cc z

-- ---- a late span, refused for want of memory

abbrev pub takes_anyway : CoreConfig → World → (shard : ℕ) → (refused lost : Bool) → CoreShard → List Arrival → Option World
takes_anyway c w shard refused lost sh [] = None
takes_anyway c w shard refused lost sh (a ∷ rest) = if not (has_due (settings c w) sh) then Some (after_taking c w shard sh (record { item = SpanItem a; refused = refused; lost = lost; answers = [] }) rest) else None

abbrev pub refuses_late : Table
refuses_late c w (take_step shard refused lost) = option_and_then (λ (sh : CoreShard). takes_anyway c w shard refused lost sh sh.queue) (slice_get w.shards shard)
refuses_late c w s = step c w s

abbrev pub late_refused : World
unfolding notes
late_refused = world_by refuses_late of_one (send (error 1) ++ take_step 0 false false ∷ tick 0 10 ∷ decide 0 [] ∷ send (plain 1) ++ take_step 0 true false ∷ [])

abbrev pub last_taken : TakenSpan late_refused
unfolding notes
last_taken = record { shard = 0; of = shard_of_one late_refused; in_world = refl; arrival = get_or (lane_of late_refused).received 1 (first_of late_refused); ids = ids_of 1; valid = refl; refused = true; lost = false; answers = []; later = []; before = drop 1 (shard_of_one late_refused).journal; split = refl }

pub late_refused_not_met : MeetsRemembered of_one late_refused → ⊥
unfolding notes
late_refused_not_met h = let k = h last_taken Sampled refl in let q : true ≡ false = k.0 in cc q

-- ---- a record, changed on its way to the shard

abbrev pub changed : Arrival → Arrival
changed a = record { key = a.key; moment = a.moment; rec = recorded a.rec.span.ids 0 99 }

abbrev pub changes : Table
changes c w (route lane shard) = option_map (λ (next : World). record next { shards = map (λ (sh : CoreShard). record sh { queue = map changed sh.queue }) next.shards }) (step c w (route lane shard))
changes c w s = step c w s

abbrev pub of_always : CoreConfig
of_always = configured always (Some 1) 1 1

abbrev pub altered : World
unfolding notes
altered = world_by changes of_always (receive 0 0 0 (plain 1 ∷ []) ∷ route 0 0 ∷ take_step 0 false false ∷ tick 0 10 ∷ decide 0 [] ∷ ship 0 ∷ pull ∷ hand ∷ close 0 ∷ end 0 0 ∷ end 0 1 ∷ [])

abbrev pub altered_span : Arrival
altered_span = changed (first_of altered)

pub altered_never_received : OnlyReleased of_always altered → ⊥
unfolding notes
altered_never_received h = not_received (h altered_span (0, omega arith, refl)).0
  where
    one : (a : Arrival) → a.rec.span.start_time_unix_nano ≡ 0 → a ≡ altered_span → ⊥
    one a z e = let q : 0 ≡ 99 = sym z ∙ ap (λ (a : Arrival). a.rec.span.start_time_unix_nano) e in absurd (omega (arith, q))

    in_list : (i : ℕ) → i < length (lane_of altered).received → get_or (lane_of altered).received i altered_span ≡ altered_span → ⊥
    in_list zero l e = one (first_of altered) refl e
    in_list (suc i) l e = absurd (omega arith)

    not_received : WasReceived altered altered_span → ⊥
    not_received r = at_lane r.lane r.of r.in_world r.has
      where
        at_lane : (lane : ℕ) (l : CoreLane) → slice_get altered.lanes lane ≡ Some l → Contains l.received altered_span → ⊥
        at_lane zero l e k = let q : lane_of altered ≡ l = cc e in let m = subst (λ (l : CoreLane). Contains l.received altered_span) (sym q) k in in_list m.0 m.1 m.2
        at_lane (suc n) l e k = absurd (cc e)

-- ---- one of two spans of one key, lost

abbrev pub first_number : Arrival → Arrival
first_number a = record { key = record { conn = a.key.conn; number = 0 }; moment = a.moment; rec = a.rec }

abbrev pub loses : Table
loses c w (receive lane ordinal moment records) = option_map (λ (next : World). record next { lanes = map (λ (l : CoreLane). record l { received = map first_number l.received; unrouted = take 1 (map first_number l.unrouted) }) next.lanes }) (step c w (receive lane ordinal moment records))
loses c w s = step c w s

abbrev pub one_lost : World
unfolding notes
one_lost = world_by loses of_one (receive 0 0 0 (error 1 ∷ error 2 ∷ []) ∷ [])

pub one_lost_misnumbered : IsNumbered one_lost → ⊥
unfolding notes
one_lost_misnumbered h = let k = h 0 (lane_of one_lost) (take 1 (lane_of one_lost).received) [] (get_or (lane_of one_lost).received 1 (first_of one_lost)) refl refl in
    let q : 0 ≡ 1 = k.1 in absurd (omega (arith, q))

-- ---- an evicted span, counted nowhere

abbrev pub forgets_evicted : Table
forgets_evicted c w (take_step shard refused lost) = option_map (λ (next : World). record next { counted = w.counted }) (step c w (take_step shard refused lost))
forgets_evicted c w s = step c w s

abbrev pub uncounted : World
unfolding notes
uncounted = world_by forgets_evicted of_one (receive 0 0 0 (error 1 ∷ error 2 ∷ []) ∷ route 0 0 ∷ route 0 0 ∷ take_step 0 false false ∷ take_step 0 false false ∷ [])

pub evicted_uncounted : InOnePlace of_one uncounted → ⊥
unfolding notes
evicted_uncounted h = let q : 0 ≡ 1 = h.received (key 0) refl in absurd (omega (arith, q))

-- ---- a batch, handed over and kept

abbrev pub keeps_batch : Table
keeps_batch c w hand = option_map (λ (next : World). record next { batch = w.batch }) (step c w hand)
keeps_batch c w s = step c w s

abbrev pub handed_twice : World
unfolding notes
handed_twice = world_by keeps_batch of_always (receive 0 0 0 (plain 1 ∷ []) ∷ route 0 0 ∷ take_step 0 false false ∷ tick 0 10 ∷ decide 0 [] ∷ ship 0 ∷ pull ∷ hand ∷ hand ∷ [])

pub batch_handed_again : InOnePlace of_always handed_twice → ⊥
unfolding notes
batch_handed_again h = let q : 3 ≡ 1 = h.received (key 0) refl in absurd (omega (arith, q))

-- ---- the last routed first

abbrev pub turns_queue : Table
turns_queue c w (route lane shard) = option_map (λ (next : World). record next { shards = map (λ (sh : CoreShard). record sh { queue = reverse sh.queue }) next.shards }) (step c w (route lane shard))
turns_queue c w s = step c w s

abbrev pub of_two : CoreConfig
of_two = record of_always { batch_size = 2 }

abbrev pub turned : World
unfolding notes
turned = world_by turns_queue of_two (receive 0 0 0 (plain 1 ∷ plain 1 ∷ []) ∷ route 0 0 ∷ route 0 0 ∷ take_step 0 false false ∷ take_step 0 false false ∷ tick 0 10 ∷ decide 0 [] ∷ ship 0 ∷ ship 0 ∷ pull ∷ pull ∷ hand ∷ [])

pub newest_first : InReceivedOrder turned → ⊥
unfolding notes
newest_first h = let q : 1 < 0 = h 0 1 (first_of turned) (omega arith) (omega arith) refl in absurd (omega (arith, q))

-- ---- a lane's End, taken while a span of the lane is queued

abbrev pub ends_anyway : CoreConfig → World → (shard sender : ℕ) → CoreShard → Option World
ends_anyway c w shard sender sh = Some (after_taking c w shard sh (record { item = EndItem sender; refused = false; lost = false; answers = [] }) sh.queue)

abbrev pub ends_early : Table
ends_early c w (end shard sender) = option_and_then (ends_anyway c w shard sender) (slice_get w.shards shard)
ends_early c w s = step c w s

abbrev pub early : World
unfolding notes
early = world_by ends_early of_always (receive 0 0 0 (plain 1 ∷ []) ∷ route 0 0 ∷ close 0 ∷ end 0 0 ∷ [])

pub ends_before_last_span : EndsLast early → ⊥
unfolding notes
ends_before_last_span h = let q : false ≡ true = h 0 0 (shard_of_one early) (lane_of early) refl refl refl in cc q

-- ---- the last released shipped first

abbrev pub turns_released : Table
turns_released c w (decide shard answers) = option_map (λ (next : World). record next { shards = map (λ (sh : CoreShard). record sh { unshipped = reverse sh.unshipped }) next.shards }) (step c w (decide shard answers))
turns_released c w s = step c w s

abbrev pub ships_last : World
unfolding notes
ships_last = world_by turns_released of_always (receive 0 0 0 (plain 1 ∷ plain 1 ∷ []) ∷ route 0 0 ∷ route 0 0 ∷ take_step 0 false false ∷ take_step 0 false false ∷ tick 0 10 ∷ decide 0 [] ∷ [])

abbrev pub second_of : World → Arrival
second_of w = get_or (lane_of w).received 1 (first_of w)

pub last_released_shipped_first : ShipsOutput of_always ships_last → ⊥
unfolding notes
last_released_shipped_first h = let k = h 0 (shard_of_one ships_last) refl in go k.0 k.1
  where
    go : (shipped : List Arrival) → shipped ++ second_of ships_last ∷ first_of ships_last ∷ [] ≡ first_of ships_last ∷ second_of ships_last ∷ [] → ⊥
    go [] e = let q : second_of ships_last ≡ first_of ships_last = cc e in let z : 1 ≡ 0 = ap (λ (a : Arrival). a.key.number) q in absurd (omega (arith, z))
    go (a ∷ shipped) e = let z = ap length e in absurd (omega (arith, z, length-append shipped (second_of ships_last ∷ first_of ships_last ∷ [])))
