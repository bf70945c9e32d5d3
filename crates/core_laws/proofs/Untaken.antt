-- What a closed world counts of the spans that no shard took.
-- For the law `untaken_is_counted`.
use Rattle.std.proofs.Common.{◌≡◌, ℕ, ◌+◌, ◌≤◌, Bool, true, false, not, ◌&&◌, ◌||◌, ◌⊎◌, List, [], ◌∷◌, ◌++◌, flat_map, map, filter, slice_get, is_some, Option, Some, None, inl, inr, refl, sym, ap, subst, ◌∙◌, arith}
use Rattle.std.specs.List.{list_any}
use Rattle.otlp_types.specs.declared.arrival.Arrival.{Arrival}
use Rattle.otlp_types.specs.declared.arrival.Item.TheVariants.{Span}
use Rattle.otlp_types.specs.declared.span.Ids.{Ids}
use Rattle.span_ids.specs.declared.keys.ArrivalKey.{ArrivalKey}
use Rattle.span_ids.specs.declared.outcome.Reason.{Reason}
use Rattle.span_ids.specs.declared.outcome.Reason.TheVariants.{InvalidId, QueueFull, NoMemory, Evicted, NotSampled, LateNotSampled, ExporterDown}
use Rattle.journal_theory.specs.Journal.{Settings, Entry}
use Rattle.journal_theory.specs.Fate.{DroppedSpan, Fate, is_released, is_counted}
use Rattle.journal_theory.proofs.ListFacts.{Each, Each-all, Each-append, Each-both, Each-filter, Each-map, Each-passes, Each-weaker, Split, Split-more, Split-behind}
use Rattle.world_theory.specs.World.{CoreConfig, CoreLane, CoreShard, World, settings, same_key}
use Rattle.world_theory.specs.Step.{has_ids}
use Rattle.world_theory.specs.Places.{Place, is_waiting, unrouted, queued, buffered, unshipped, exported, in_batch, handed, counted_under, HeldKey, held_at, buffered_spans, held_by_lanes, held_by_shard, held_by_shards, held, places, IsClosed}
use Rattle.world_theory.specs.Headline.{OfEachRun, WasReceived, HasFate, is_span_with, is_under, was_taken, handed_spans, HoldsOf}
use Rattle.world_theory.proofs.Balance.{occ}
use Rattle.world_theory.proofs.Dealing.{Split-each}
use Rattle.world_theory.proofs.Parts.{headline}
use Rattle.world_theory.proofs.Received.{got_at_most_once}
use Rattle.world_theory.proofs.Single.{same_key_is, key_self, one_hit, one_long, total-at, all_received, occ_all, in_all, contains_split, split_contains}
use Rattle.core_laws.specs.Untaken.{is_counted_as, IsCountedUntaken, UntakenIsCounted}
use Rattle.core_laws.proofs.Found.{any_in, any_at, received_key}
use Rattle.core_laws.proofs.Once.{numbered}
use Rattle.core_laws.proofs.Out.{gone_place}

-- ---- a key at the place of what was handed over is that of a span there

module _ (w : World) where
  abbrev IsHanded : HeldKey → Type 0
  IsHanded x = x.place ≡ handed → (b : Arrival) × (Split b (handed_spans w)) × (b.key ≡ x.key)

  at_other : (place : Place) → is_waiting place ≡ true → (spans : List Arrival) → Each IsHanded (held_at place spans)
  at_other place e spans = Each-map IsHanded (λ (a : Arrival). record { place = place; key = a.key }) spans
      (Each-all (λ (a : Arrival). IsHanded (record { place = place; key = a.key })) spans (λ a k. let bad : true ≡ false = sym e ∙ ap is_waiting k in absurd (cc bad)))

  by_lanes : (n : ℕ) (lanes : List CoreLane) → Each IsHanded (held_by_lanes n lanes)
  by_lanes n [] = tt
  by_lanes n (l ∷ rest) = Each-append IsHanded (held_at (unrouted n) l.unrouted) (held_by_lanes (n + 1) rest) (at_other (unrouted n) refl l.unrouted) (by_lanes (n + 1) rest)

  by_shard : (s : Settings) (n : ℕ) (sh : CoreShard) → Each IsHanded (held_by_shard s n sh)
  by_shard s n sh = Each-append IsHanded (held_at (queued n) sh.queue ++ held_at (buffered n) (buffered_spans s sh.journal sh.dealt)) (held_at (unshipped n) sh.unshipped)
      (Each-append IsHanded (held_at (queued n) sh.queue) (held_at (buffered n) (buffered_spans s sh.journal sh.dealt)) (at_other (queued n) refl sh.queue) (at_other (buffered n) refl (buffered_spans s sh.journal sh.dealt)))
      (at_other (unshipped n) refl sh.unshipped)

  by_shards : (s : Settings) (n : ℕ) (shards : List CoreShard) → Each IsHanded (held_by_shards s n shards)
  by_shards s n [] = tt
  by_shards s n (sh ∷ rest) = Each-append IsHanded (held_by_shard s n sh) (held_by_shards s (n + 1) rest) (by_shard s n sh) (by_shards s (n + 1) rest)

  by_batches : (batches : List (List Arrival)) → ((b : Arrival) → Split b (flat_map (λ (b : List Arrival). b) batches) → Split b (handed_spans w)) → Each IsHanded (flat_map (held_at handed) batches)
  by_batches [] f = tt
  by_batches (batch ∷ rest) f = Each-append IsHanded (held_at handed batch) (flat_map (held_at handed) rest)
      (Each-map IsHanded (λ (a : Arrival). record { place = handed; key = a.key }) batch
      (Each-weaker (λ (a : Arrival). Split a batch) (λ (a : Arrival). IsHanded (record { place = handed; key = a.key })) batch
      (λ a s k. (a, f a (Split-more a batch (flat_map (λ (b : List Arrival). b) rest) s), refl)) (Split-each batch)))
      (by_batches rest (λ b s. f b (Split-behind b batch (flat_map (λ (b : List Arrival). b) rest) s)))

  by_counted : (counted : List DroppedSpan) → Each IsHanded (map (λ (n : DroppedSpan). record { place = counted_under n.reason; key = n.key }) counted)
  by_counted counted = Each-map IsHanded (λ (n : DroppedSpan). record { place = counted_under n.reason; key = n.key }) counted
      (Each-all (λ (n : DroppedSpan). IsHanded (record { place = counted_under n.reason; key = n.key })) counted (λ n k. absurd (cc k)))

  all_handed : (c : CoreConfig) → Each IsHanded (held c w)
  all_handed c =
      Each-append IsHanded _ _ (Each-append IsHanded _ _ (Each-append IsHanded _ _ (Each-append IsHanded _ _ (Each-append IsHanded (held_by_lanes 0 w.lanes) (held_by_shards (settings c w) 0 w.shards)
      (by_lanes 0 w.lanes) (by_shards (settings c w) 0 w.shards))
      (at_other exported refl w.exported))
      (at_other in_batch refl w.batch))
      (by_batches w.handed (λ b s. s)))
      (by_counted w.counted)

  handed_of : (c : CoreConfig) (k : ArrivalKey) → places c w k ≡ handed ∷ [] → (b : Arrival) × (Split b (handed_spans w)) × (b.key ≡ k)
  handed_of c k e = go (filter (λ (x : HeldKey). same_key x.key k) (held c w))
      (Each-both IsHanded (λ (x : HeldKey). same_key x.key k ≡ true) (λ (x : HeldKey). IsHanded x × (same_key x.key k ≡ true)) (filter (λ (x : HeldKey). same_key x.key k) (held c w)) (λ x a b. (a, b))
      (Each-filter IsHanded (λ (x : HeldKey). same_key x.key k) (held c w) (all_handed c)) (Each-passes (λ (x : HeldKey). same_key x.key k) (held c w))) e
    where
      go : (hs : List HeldKey) → Each (λ (x : HeldKey). IsHanded x × (same_key x.key k ≡ true)) hs → map (λ (x : HeldKey). x.place) hs ≡ handed ∷ [] → (b : Arrival) × (Split b (handed_spans w)) × (b.key ≡ k)
      go [] p e = absurd (cc e)
      go (x ∷ hs) p e = let q : x.place ≡ handed = cc e in let b = p.0.0 q in (b.0, b.1, b.2 ∙ same_key_is x.key k p.0.1)

-- ---- a received key is received once

pub once_on_lane : (c : CoreConfig) (w : World) → HoldsOf c w → (lane : ℕ) (l : CoreLane) → slice_get w.lanes lane ≡ Some l → (k : ArrivalKey) → occ k l.received ≤ 1
once_on_lane c w h lane l g k = omega (arith, total-at (λ (l : CoreLane). occ k l.received) w.lanes lane l g, got_at_most_once k 0 w.lanes (numbered w h.one_place.numbered))

-- two received spans of one key are one
one_received : (c : CoreConfig) (w : World) → HoldsOf c w → (a b : Arrival) → WasReceived w a → WasReceived w b → b.key ≡ a.key → b ≡ a
one_received c w h a b got other e =
    let most : occ a.key (all_received w.lanes) ≤ 1 = omega (arith, occ_all a.key w.lanes, got_at_most_once a.key 0 w.lanes (numbered w h.one_place.numbered)) in
    (one_hit (λ (x : Arrival). same_key x.key a.key) (all_received w.lanes) b a most (ap (λ (k : ArrivalKey). same_key k a.key) e ∙ key_self a.key) (key_self a.key)
    (in_all b w.lanes other.lane other.of other.in_world (contains_split other.of.received b other.has)) (in_all a w.lanes got.lane got.of got.in_world (contains_split got.of.received a got.has))).0

-- ---- by its place

module _ (c : CoreConfig) (w : World) (h : HoldsOf c w) (a : Arrival) (got : WasReceived w a) where
  -- a span that has a fate was taken, and has valid ids
  was_taken_by : (became : Fate) → HasFate c w a became → was_taken w a.key ≡ true
  was_taken_by became f =
      let t = f.0 in
      let hit : is_span_with a.key (Span t.arrival) ≡ true = ap (λ (x : Arrival). same_key x.key a.key) f.1 ∙ key_self a.key in
      let own : list_any (λ (e : Entry). is_span_with a.key e.item) t.of.journal ≡ true = any_in (λ (e : Entry). is_span_with a.key e.item) t.of.journal (record { item = Span t.arrival; refused = t.refused; lost = t.lost; answers = t.answers }) (record { front = t.later; back = t.before; is = t.split }) hit in
      any_at (λ (sh : CoreShard). list_any (λ (e : Entry). is_span_with a.key e.item) sh.journal) w.shards t.shard t.of t.in_world own

  has_valid : (became : Fate) → HasFate c w a became → has_ids a ≡ true
  has_valid became f = ap (λ (x : Arrival). is_some x.rec.span.ids) (sym f.1) ∙ ap (λ (i : Option Ids). is_some i) f.0.valid

  counted_at : (reason : Reason) (place : Place) → places c w a.key ≡ place ∷ [] → is_counted_as c w reason a ≡ (is_under reason place || false)
  counted_at reason place e = ap (list_any (is_under reason)) e

  -- a span with a fate is at neither of the two places
  by_fate : (became : Fate) (place : Place) → places c w a.key ≡ place ∷ [] → (is_under InvalidId place || false) ≡ false → (is_under QueueFull place || false) ≡ false → HasFate c w a became → IsCountedUntaken c w a
  by_fate became place e valid taken f = record {
    invalid = counted_at InvalidId place e ∙ valid ∙ sym (ap not (has_valid became f));
    full = counted_at QueueFull place e ∙ taken ∙ sym (ap (λ (b : Bool). b && not (was_taken w a.key)) (has_valid became f) ∙ ap not (was_taken_by became f));
  }

  by_either : (first second : Fate) (place : Place) → places c w a.key ≡ place ∷ [] → (is_under InvalidId place || false) ≡ false → (is_under QueueFull place || false) ≡ false → HasFate c w a first ⊎ HasFate c w a second → IsCountedUntaken c w a
  by_either first second place e valid taken (inl f) = by_fate first place e valid taken f
  by_either first second place e valid taken (inr f) = by_fate second place e valid taken f

  by_place : (place : Place) → places c w a.key ≡ place ∷ [] → is_waiting place ≡ false → IsCountedUntaken c w a
  by_place (unrouted n) e gone = absurd (cc gone)
  by_place (queued n) e gone = absurd (cc gone)
  by_place (buffered n) e gone = absurd (cc gone)
  by_place (unshipped n) e gone = absurd (cc gone)
  by_place exported e gone = absurd (cc gone)
  by_place in_batch e gone = absurd (cc gone)
  by_place handed e gone =
      let b = handed_of w c a.key e in
      let only = h.only_released b.0 (split_contains b.0 (handed_spans w) b.1) in
      by_fate is_released handed e refl refl (subst (λ (x : Arrival). HasFate c w x is_released) (one_received c w h a b.0 got only.0 b.2) only.1)
  by_place (counted_under InvalidId) e gone =
      let none : a.rec.span.ids ≡ None = h.cause a InvalidId got e in
      record {
        invalid = counted_at InvalidId (counted_under InvalidId) e ∙ sym (ap (λ (i : Option Ids). not (is_some i)) none);
        full = counted_at QueueFull (counted_under InvalidId) e ∙ sym (ap (λ (i : Option Ids). is_some i && not (was_taken w a.key)) none);
      }
  by_place (counted_under QueueFull) e gone =
      let valid = h.cause a QueueFull got e in
      record {
        invalid = counted_at InvalidId (counted_under QueueFull) e ∙ sym (ap not valid.0);
        full = counted_at QueueFull (counted_under QueueFull) e ∙ sym (ap (λ (b : Bool). b && not (was_taken w a.key)) valid.0 ∙ ap not valid.1);
      }
  by_place (counted_under NoMemory) e gone = by_either (is_counted NoMemory) is_released (counted_under NoMemory) e refl refl (h.cause a NoMemory got e)
  by_place (counted_under Evicted) e gone = by_fate (is_counted Evicted) (counted_under Evicted) e refl refl (h.cause a Evicted got e)
  by_place (counted_under NotSampled) e gone = by_fate (is_counted NotSampled) (counted_under NotSampled) e refl refl (h.cause a NotSampled got e)
  by_place (counted_under LateNotSampled) e gone = by_fate (is_counted LateNotSampled) (counted_under LateNotSampled) e refl refl (h.cause a LateNotSampled got e)
  by_place (counted_under ExporterDown) e gone = by_fate is_released (counted_under ExporterDown) e refl refl (h.cause a ExporterDown got e).1

  pub counted_untaken : IsClosed c w → IsCountedUntaken c w a
  counted_untaken closed =
      let one = one_long (places c w a.key) (h.one_place.received a.key (received_key w a got)) in
      by_place one.0 one.1 (gone_place c w a.key one.0 closed one.1)

-- ---- the law

pub untaken_is_counted : OfEachRun UntakenIsCounted
untaken_is_counted c lanes shards steps w room run closed a got = counted_untaken c w (headline c lanes shards steps w room run) a got closed
