-- As many spans are received as have a place.
-- For the law `counts_add_up`.
use Rattle.std.proofs.Common.{◌≡◌, ℕ, suc, ◌+◌, Bool, true, false, not, cond, List, [], ◌∷◌, length, map, flat_map, length-append, refl, sym, ap, ◌∙◌, arith}
use Rattle.std.specs.List.{sum_by}
use Rattle.otlp_types.specs.declared.arrival.Arrival.{Arrival}
use Rattle.span_ids.specs.declared.keys.ArrivalKey.{ArrivalKey}
use Rattle.span_ids.specs.declared.outcome.Reason.{Reason}
use Rattle.span_ids.specs.declared.outcome.Reason.TheVariants.{InvalidId, QueueFull, NoMemory, Evicted, NotSampled, LateNotSampled, ExporterDown}
use Rattle.journal_theory.specs.Journal.{Settings}
use Rattle.journal_theory.specs.Fate.{DroppedSpan, under}
use Rattle.world_theory.specs.World.{CoreConfig, CoreLane, CoreShard, World, settings, same_key}
use Rattle.world_theory.specs.Places.{Place, is_waiting, unrouted, queued, buffered, unshipped, exported, in_batch, handed, counted_under, HeldKey, held_at, buffered_spans, held_by_lanes, held_by_shard, held_by_shards, held, waiting}
use Rattle.world_theory.specs.Headline.{OfEachRun, InOnePlace, handed_spans}
use Rattle.journal_theory.proofs.ListFacts.{tally, tally-append, tally-map, length_filter}
use Rattle.journal_theory.proofs.Counted.{under_append}
use Rattle.world_theory.proofs.Balance.{held_amount, length_places}
use Rattle.world_theory.proofs.OnePlace.{in_one_place}
use Rattle.world_theory.proofs.Single.{occ_all}
use Rattle.core_laws.specs.Sums.{reasons, received_spans, AddsUp, AddsUpClosed}
use Rattle.core_laws.proofs.Once.{held_as_got}
use Rattle.core_laws.proofs.Multisets.{same_length}

-- ---- as many are held as were received

length_mapped : {X Y : Type 0} (f : X → Y) (xs : List X) → length (map f xs) ≡ length xs
length_mapped f [] = refl
length_mapped f (x ∷ xs) = ap suc (length_mapped f xs)

all_are_held : (c : CoreConfig) (w : World) → InOnePlace c w → length (received_spans w) ≡ length (held c w)
all_are_held c w h =
    let keys = same_length (map (λ (a : Arrival). a.key) (received_spans w)) (map (λ (x : HeldKey). x.key) (held c w)) (λ k.
    tally-map (λ (x : ArrivalKey). same_key x k) (λ (a : Arrival). a.key) (received_spans w)
    ∙ occ_all k w.lanes ∙ sym (held_as_got c w h k) ∙ length_places k c w ∙ sym (held_amount k c w)
    ∙ sym (tally-map (λ (x : ArrivalKey). same_key x k) (λ (x : HeldKey). x.key) (held c w))) in
    sym (length_mapped (λ (a : Arrival). a.key) (received_spans w)) ∙ keys ∙ length_mapped (λ (x : HeldKey). x.key) (held c w)

-- ---- what is held waits, was handed over or is counted

-- all pass, or none
abbrev waits_at : HeldKey → Bool
waits_at h = is_waiting h.place

halves : {X : Type 0} (p : X → Bool) (xs : List X) → tally p xs + tally (λ (x : X). not (p x)) xs ≡ length xs
halves p [] = refl
halves p (x ∷ xs) = go (p x) (halves p xs)
  where
    go : (b : Bool) → tally p xs + tally (λ (y : _). not (p y)) xs ≡ length xs → (cond b 1 0 + tally p xs) + (cond (not b) 1 0 + tally (λ (y : _). not (p y)) xs) ≡ length (x ∷ xs)
    go true h = omega arith
    go false h = omega arith

abbrev gone_at : HeldKey → Bool
gone_at h = not (is_waiting h.place)

gone_from : (place : Place) → is_waiting place ≡ true → (spans : List Arrival) → tally gone_at (held_at place spans) ≡ 0
gone_from place h [] = refl
gone_from place h (a ∷ spans) = let e : cond (not (is_waiting place)) 1 0 ≡ 0 = ap (λ (b : Bool). cond {A = ℕ} (not b) 1 0) h in omega (arith, e, gone_from place h spans)

gone_lanes : (n : ℕ) (lanes : List CoreLane) → tally gone_at (held_by_lanes n lanes) ≡ 0
gone_lanes n [] = refl
gone_lanes n (l ∷ rest) = omega (arith, tally-append gone_at (held_at (unrouted n) l.unrouted) (held_by_lanes (n + 1) rest), gone_from (unrouted n) refl l.unrouted, gone_lanes (n + 1) rest)

gone_shard : (s : Settings) (n : ℕ) (sh : CoreShard) → tally gone_at (held_by_shard s n sh) ≡ 0
gone_shard s n sh =
    simp (tally-append) (omega (arith, gone_from (queued n) refl sh.queue, gone_from (buffered n) refl (buffered_spans s sh.journal sh.dealt), gone_from (unshipped n) refl sh.unshipped))

gone_shards : (s : Settings) (n : ℕ) (shards : List CoreShard) → tally gone_at (held_by_shards s n shards) ≡ 0
gone_shards s n [] = refl
gone_shards s n (sh ∷ rest) = omega (arith, tally-append gone_at (held_by_shard s n sh) (held_by_shards s (n + 1) rest), gone_shard s n sh, gone_shards s (n + 1) rest)

gone_handed : (batches : List (List Arrival)) → tally gone_at (flat_map (held_at handed) batches) ≡ length (flat_map (λ (b : List Arrival). b) batches)
gone_handed [] = refl
gone_handed (b ∷ batches) = omega (arith, tally-append gone_at (held_at handed b) (flat_map (held_at handed) batches), one b, gone_handed batches, length-append b (flat_map (λ (x : List Arrival). x) batches))
  where
    one : (spans : List Arrival) → tally gone_at (held_at handed spans) ≡ length spans
    one [] = refl
    one (a ∷ spans) = omega (arith, one spans)

gone_counted : (counted : List DroppedSpan) → tally gone_at (map (λ (n : DroppedSpan). record { place = counted_under n.reason; key = n.key }) counted) ≡ length counted
gone_counted [] = refl
gone_counted (n ∷ counted) = omega (arith, gone_counted counted)

gone_all : (c : CoreConfig) (w : World) → tally gone_at (held c w) ≡ length (handed_spans w) + length w.counted
gone_all c w =
    let e1 = gone_lanes 0 w.lanes in
    let e2 = gone_shards (settings c w) 0 w.shards in
    let e3 = gone_from exported refl w.exported in
    let e4 = gone_from in_batch refl w.batch in
    let e5 = gone_handed w.handed in
    let e6 = gone_counted w.counted in
    simp (tally-append) (omega (arith, e1, e2, e3, e4, e5, e6))

-- ---- each count is under one reason

one_reason : (r : Reason) (k : ArrivalKey) → sum_by (λ (reason : Reason). length (under reason (record { reason = r; key = k } ∷ []))) reasons ≡ 1
one_reason InvalidId k = refl
one_reason QueueFull k = refl
one_reason NoMemory k = refl
one_reason Evicted k = refl
one_reason NotSampled k = refl
one_reason LateNotSampled k = refl
one_reason ExporterDown k = refl

by_reason : (counted : List DroppedSpan) → sum_by (λ (reason : Reason). length (under reason counted)) reasons ≡ length counted
by_reason [] = refl
by_reason (n ∷ counted) =
    let one = one_reason n.reason n.key in
    let rest = by_reason counted in
    omega (arith, one, rest, under_append InvalidId (n ∷ []) counted, under_append QueueFull (n ∷ []) counted, under_append NoMemory (n ∷ []) counted, under_append Evicted (n ∷ []) counted, under_append NotSampled (n ∷ []) counted, under_append LateNotSampled (n ∷ []) counted, under_append ExporterDown (n ∷ []) counted)

-- ---- the laws

-- of each world of which each received span has one place
pub adds_up_at : (c : CoreConfig) (w : World) → InOnePlace c w → AddsUp c w
adds_up_at c w h =
    omega (arith, all_are_held c w h, halves waits_at (held c w), length_filter waits_at (held c w), gone_all c w, by_reason w.counted)

pub closed_adds_up_at : (c : CoreConfig) (w : World) → InOnePlace c w → AddsUpClosed c w
closed_adds_up_at c w h closed =
    let none : length (waiting c w) ≡ 0 = ap (λ (xs : List HeldKey). length xs) closed.nothing_waits in
    omega (arith, adds_up_at c w h, none)

pub adds_up : OfEachRun AddsUp
adds_up c lanes shards steps w room run = adds_up_at c w (in_one_place c lanes shards steps w room run)

pub adds_up_closed : OfEachRun AddsUpClosed
adds_up_closed c lanes shards steps w room run = closed_adds_up_at c w (in_one_place c lanes shards steps w room run)
