-- What is known of a key by its place, and where a span stands that a shard took.
-- For the laws of the headline, `headline` and each of its parts.
use Rattle.std.proofs.Common.{◌≡◌, ℕ, suc, ◌+◌, ◌<◌, Bool, true, false, ◌==◌, List, [], ◌∷◌, ◌++◌, length, map, filter, flat_map, slice_get, Option, Some, None, is_none, ◌⊎◌, inl, inr, refl, ap, sym, subst, ◌∙◌, arith, eq-eqb}
use Rattle.std.specs.List.{list_any}
use Rattle.journal_theory.specs.Journal.{Settings, Journal, Opening, is_in_buffer, in_buffer, decided_as, joins, opens, finding, spans_since, notes, notes_dealt}
use Rattle.journal_theory.specs.Fate.{waits, is_released, fate, fate_of_finding, fate_of_member_decided, DroppedSpan}
use Rattle.otlp_types.specs.declared.arrival.Arrival.{Arrival}
use Rattle.span_ids.specs.declared.keys.ArrivalKey.{ArrivalKey}
use Rattle.world_theory.specs.World.{CoreConfig, CoreLane, CoreShard, World, settings, same_key}
use Rattle.world_theory.specs.Places.{Place, HeldKey, is_waiting, unrouted, queued, buffered, unshipped, exported, in_batch, handed, counted_under, held_at, buffered_spans, held_by_lanes, held_by_shard, held_by_shards, held, places}
use Rattle.world_theory.specs.Headline.{is_past_release}
use Rattle.journal_theory.proofs.Notes.{HasRoom, is_open}
use Rattle.journal_theory.proofs.ListFacts.{Each, Each-append, Each-left, Each-right, Each-weaker, Each-both, Each-map, Each-filter, Each-passes, Each-spill, Split}
use Rattle.journal_theory.proofs.Find.{any_split}
use Rattle.world_theory.proofs.Content.{content, content_is}
use Rattle.world_theory.proofs.Dealing.{Split-each}
use Rattle.world_theory.proofs.Members.{Joined, AreJoined, joined_dealt}
use Rattle.world_theory.proofs.Released.{IsReleased, HasReleased}
use Rattle.world_theory.proofs.Settled.{FateIs}
use Rattle.world_theory.proofs.Balance.{occ}
use Rattle.world_theory.proofs.RoutedOnce.{before_journals}
use Rattle.world_theory.proofs.Single.{same_key_is, key_self, split_hit, total-at, total-split}
use Rattle.world_theory.proofs.Whole.{Whole}

-- ---- a span in the buffer

-- the span is one of an undecided episode in the buffer
pub record Waits (s : Settings) (J : Journal) (dealt : ℕ) (a : Arrival) : Type 0 where
  pub opening : Opening
  pub joined : Joined s J opening a
  pub inside : is_in_buffer s (notes_dealt s J dealt) opening.at ≡ true
  pub undecided : decided_as (notes_dealt s J dealt) opening.at ≡ None

none_of : {X : Type 0} (o : Option X) → is_none o ≡ true → o ≡ None
none_of None e = refl
none_of (Some x) e = absurd (cc e)

each_waits : (s : Settings) → HasRoom s.num_traces → (J : Journal) (dealt : ℕ) → Each (Waits s J dealt) (content s J (notes_dealt s J dealt))
each_waits s room J dealt = Each-spill (Waits s J dealt) (spans_since J) (is_open (notes_dealt s J dealt)) (in_buffer s (notes_dealt s J dealt))
    (Each-both (λ (o : Opening). Split o (in_buffer s (notes_dealt s J dealt))) (AreJoined s J (notes_dealt s J dealt)) (λ (o : Opening). is_open (notes_dealt s J dealt) o ≡ true → Each (Waits s J dealt) (spans_since J o)) (in_buffer s (notes_dealt s J dealt))
    (λ o place f p. Each-weaker (Joined s J o) (Waits s J dealt) (spans_since J o) (λ a j. record { opening = o; joined = j; inside = inside o place; undecided = none_of (decided_as (notes_dealt s J dealt) o.at) p }) (f p))
    (Split-each (in_buffer s (notes_dealt s J dealt))) (joined_dealt s room J dealt))
  where
    inside : (o : Opening) → Split o (in_buffer s (notes_dealt s J dealt)) → is_in_buffer s (notes_dealt s J dealt) o.at ≡ true
    inside o k = subst (λ (z : List Opening). list_any (λ (x : Opening). x.at == o.at) z ≡ true) (sym k.is) (any_split (λ (x : Opening). x.at == o.at) k.front k.back o (eq-eqb o.at o.at refl))

-- where nothing is due, such a span's fate is to wait
pub waits_fate : (s : Settings) (J : Journal) (dealt : ℕ) (a : Arrival) → notes_dealt s J dealt ≡ notes s J → (h : Waits s J dealt a) → fate s J h.joined.before false h.joined.ids ≡ waits
waits_fate s J dealt a e h = go h.joined.holds
  where
    inside : is_in_buffer s (notes s J) h.opening.at ≡ true
    inside = subst (λ n. is_in_buffer s n h.opening.at ≡ true) e h.inside

    undecided : decided_as (notes s J) h.opening.at ≡ None
    undecided = subst (λ n. decided_as n h.opening.at ≡ None) e h.undecided

    member : fate_of_member_decided (is_in_buffer s (notes s J) h.opening.at) (decided_as (notes s J) h.opening.at) ≡ waits
    member = rw (inside, undecided) refl

    go : (finding s (notes s h.joined.before) h.joined.ids.trace ≡ joins h.opening) ⊎ ((finding s (notes s h.joined.before) h.joined.ids.trace ≡ opens) × (length h.joined.before ≡ h.opening.at)) → fate s J h.joined.before false h.joined.ids ≡ waits
    go (inl f) = ap (fate_of_finding s (notes s J) (length h.joined.before)) f ∙ member
    go (inr p) = ap (fate_of_finding s (notes s J) (length h.joined.before)) p.0 ∙ ap (λ (at : ℕ). fate_of_member_decided (is_in_buffer s (notes s J) at) (decided_as (notes s J) at)) p.1 ∙ member

-- ---- what is known of a key by its place

-- the place is that of a count
abbrev pub is_count : Place → Bool
is_count (counted_under reason) = true
is_count _ = false

pub data Stands (c : CoreConfig) (w : World) (place : Place) (k : ArrivalKey) : Type 0 where
  on_its_way : is_waiting place ≡ true → 0 < before_journals k w → Stands c w place k
  waits_in : (i : ℕ) (sh : CoreShard) (a : Arrival) → slice_get w.shards i ≡ Some sh → a.key ≡ k → place ≡ buffered i → Waits (settings c w) sh.journal sh.dealt a → Stands c w place k
  sent_by : (i : ℕ) (sh : CoreShard) (a : Arrival) → slice_get w.shards i ≡ Some sh → a.key ≡ k → is_past_release i place ≡ true → is_count place ≡ false → FateIs (settings c w) sh.journal a is_released → Stands c w place k
  in_counts : (n : DroppedSpan) → Split n w.counted → place ≡ counted_under n.reason → n.key ≡ k → Stands c w place k

pub has_fate_of : (s : Settings) (J : Journal) (a : Arrival) → IsReleased s J a → FateIs s J a is_released
has_fate_of s J a i = record { ids = i.ids; valid = i.valid; refused = false; lost = i.lost; given = i.given; later = i.later; before = i.before; split = i.split; is = i.holds }

module _ (c : CoreConfig) (room : HasRoom c.shard.num_traces) (w : World) (h : Whole c w) where
  abbrev s : Settings
  s = settings c w

  abbrev Known : HeldKey → Type 0
  Known x = Stands c w x.place x.key

  -- spans at one place
  at_place : (place : Place) (spans : List Arrival) → Each (λ (a : Arrival). Stands c w place a.key) spans → Each Known (held_at place spans)
  at_place place spans k = Each-map Known (λ (a : Arrival). record { place = place; key = a.key }) spans k

  waiting_at : (place : Place) (spans : List Arrival) → is_waiting place ≡ true → Each (λ (a : Arrival). 0 < before_journals a.key w) spans → Each Known (held_at place spans)
  waiting_at place spans e k = at_place place spans (Each-weaker (λ (a : Arrival). 0 < before_journals a.key w) (λ (a : Arrival). Stands c w place a.key) spans (λ a p. on_its_way e p) k)

  by_lanes : (n : ℕ) (lanes : List CoreLane) → Each (λ (l : CoreLane). Each (λ (a : Arrival). 0 < before_journals a.key w) l.unrouted) lanes → Each Known (held_by_lanes n lanes)
  by_lanes n [] k = tt
  by_lanes n (l ∷ rest) k = Each-append Known (held_at (unrouted n) l.unrouted) (held_by_lanes (n + 1) rest) (waiting_at (unrouted n) l.unrouted refl k.0) (by_lanes (n + 1) rest k.1)

  lanes_wait : Each (λ (l : CoreLane). Each (λ (a : Arrival). 0 < before_journals a.key w) l.unrouted) w.lanes
  lanes_wait = Each-weaker (λ (l : CoreLane). Split l w.lanes) (λ (l : CoreLane). Each (λ (a : Arrival). 0 < before_journals a.key w) l.unrouted) w.lanes
      (λ l p. Each-weaker (λ (a : Arrival). Split a l.unrouted) (λ (a : Arrival). 0 < before_journals a.key w) l.unrouted
      (λ a q. omega (arith, total-split (λ (l : CoreLane). occ a.key l.unrouted) w.lanes l p, split_hit (λ (b : Arrival). same_key b.key a.key) l.unrouted a q (key_self a.key))) (Split-each l.unrouted)) (Split-each w.lanes)

  by_shard : (n : ℕ) (sh : CoreShard) → slice_get w.shards n ≡ Some sh → Each Known (held_by_shard s n sh)
  by_shard n sh g = Each-append Known (held_at (queued n) sh.queue ++ held_at (buffered n) (buffered_spans s sh.journal sh.dealt)) (held_at (unshipped n) sh.unshipped)
      (Each-append Known (held_at (queued n) sh.queue) (held_at (buffered n) (buffered_spans s sh.journal sh.dealt)) in_queue in_buffer) unsent
    where
      in_queue : Each Known (held_at (queued n) sh.queue)
      in_queue = waiting_at (queued n) sh.queue refl (Each-weaker (λ (a : Arrival). Split a sh.queue) (λ (a : Arrival). 0 < before_journals a.key w) sh.queue
          (λ a q. omega (arith, total-at (λ (sh : CoreShard). occ a.key sh.queue) w.shards n sh g, split_hit (λ (b : Arrival). same_key b.key a.key) sh.queue a q (key_self a.key))) (Split-each sh.queue))

      in_buffer : Each Known (held_at (buffered n) (buffered_spans s sh.journal sh.dealt))
      in_buffer = at_place (buffered n) (buffered_spans s sh.journal sh.dealt) (subst (λ (z : List Arrival). Each (λ (a : Arrival). Stands c w (buffered n) a.key) z) (sym (content_is s sh.journal (notes_dealt s sh.journal sh.dealt)))
          (Each-weaker (Waits s sh.journal sh.dealt) (λ (a : Arrival). Stands c w (buffered n) a.key) (content s sh.journal (notes_dealt s sh.journal sh.dealt)) (λ a p. waits_in n sh a g refl refl p) (each_waits s room sh.journal sh.dealt)))

      unsent : Each Known (held_at (unshipped n) sh.unshipped)
      unsent = at_place (unshipped n) sh.unshipped (Each-weaker (IsReleased s sh.journal) (λ (a : Arrival). Stands c w (unshipped n) a.key) sh.unshipped
          (λ a p. sent_by n sh a g refl (eq-eqb n n refl) refl (has_fate_of s sh.journal a p)) (h.releasing.sent n sh g))

  by_shards : (n : ℕ) (shards : List CoreShard) → ((i : ℕ) (sh : CoreShard) → slice_get shards i ≡ Some sh → slice_get w.shards (n + i) ≡ Some sh) → Each Known (held_by_shards s n shards)
  by_shards n [] f = tt
  by_shards n (sh ∷ rest) f = Each-append Known (held_by_shard s n sh) (held_by_shards s (n + 1) rest) (by_shard n sh first)
      (by_shards (n + 1) rest (λ i x e. let q : n + suc i ≡ (n + 1) + i = omega arith in subst (λ (j : ℕ). slice_get w.shards j ≡ Some x) q (f (suc i) x e)))
    where
      first : slice_get w.shards n ≡ Some sh
      first = let q : n + 0 ≡ n = omega arith in subst (λ (j : ℕ). slice_get w.shards j ≡ Some sh) q (f 0 sh refl)

  sent_at : (place : Place) (spans : List Arrival) → ((i : ℕ) → is_past_release i place ≡ true) → is_count place ≡ false → Each (HasReleased s w.shards) spans → Each Known (held_at place spans)
  sent_at place spans f e k = at_place place spans (Each-weaker (HasReleased s w.shards) (λ (a : Arrival). Stands c w place a.key) spans
      (λ a p. sent_by p.shard p.sh a p.at refl (f p.shard) e (has_fate_of s p.sh.journal a p.released)) k)

  by_handed : (batches : List (List Arrival)) → Each (HasReleased s w.shards) (flat_map (λ (b : List Arrival). b) batches) → Each Known (flat_map (held_at handed) batches)
  by_handed [] k = tt
  by_handed (b ∷ rest) k = Each-append Known (held_at handed b) (flat_map (held_at handed) rest) (sent_at handed b (λ i. refl) refl (Each-left (HasReleased s w.shards) b (flat_map (λ (b : List Arrival). b) rest) k)) (by_handed rest (Each-right (HasReleased s w.shards) b (flat_map (λ (b : List Arrival). b) rest) k))

  by_counted : Each Known (map (λ (n : DroppedSpan). record { place = counted_under n.reason; key = n.key }) w.counted)
  by_counted = Each-map Known (λ (n : DroppedSpan). record { place = counted_under n.reason; key = n.key }) w.counted
      (Each-weaker (λ (n : DroppedSpan). Split n w.counted) (λ (n : DroppedSpan). Stands c w (counted_under n.reason) n.key) w.counted (λ n p. in_counts n p refl refl) (Split-each w.counted))

  each_known : Each Known (held c w)
  each_known =
      let past = Each-right (HasReleased s w.shards) (flat_map (λ (b : List Arrival). b) w.handed) (w.batch ++ w.exported) h.releasing.gone in
      Each-append Known _ _ (Each-append Known _ _ (Each-append Known _ _ (Each-append Known _ _ (Each-append Known (held_by_lanes 0 w.lanes) (held_by_shards s 0 w.shards)
      (by_lanes 0 w.lanes lanes_wait) (by_shards 0 w.shards (λ i sh e. let q : i ≡ 0 + i = omega arith in subst (λ (j : ℕ). slice_get w.shards j ≡ Some sh) q e)))
      (sent_at exported w.exported (λ i. refl) refl (Each-right (HasReleased s w.shards) w.batch w.exported past)))
      (sent_at in_batch w.batch (λ i. refl) refl (Each-left (HasReleased s w.shards) w.batch w.exported past)))
      (by_handed w.handed (Each-left (HasReleased s w.shards) (flat_map (λ (b : List Arrival). b) w.handed) (w.batch ++ w.exported) h.releasing.gone)))
      by_counted

  pub stands : (k : ArrivalKey) (place : Place) → places c w k ≡ place ∷ [] → Stands c w place k
  stands k place e = go (filter (λ (x : HeldKey). same_key x.key k) (held c w)) (Each-both Known (λ (x : HeldKey). same_key x.key k ≡ true) (λ (x : HeldKey). Known x × (same_key x.key k ≡ true)) (filter (λ (x : HeldKey). same_key x.key k) (held c w)) (λ x a b. (a, b))
      (Each-filter Known (λ (x : HeldKey). same_key x.key k) (held c w) each_known) (Each-passes (λ (x : HeldKey). same_key x.key k) (held c w))) e
    where
      go : (hs : List HeldKey) → Each (λ (x : HeldKey). Known x × (same_key x.key k ≡ true)) hs → map (λ (x : HeldKey). x.place) hs ≡ place ∷ [] → Stands c w place k
      go [] p e = absurd (cc e)
      go (x ∷ hs) p e = let q : x.place ≡ place = cc e in subst (λ (z : Place). Stands c w z k) q (subst (λ (k : ArrivalKey). Stands c w x.place k) (same_key_is x.key k p.0.1) p.0.0)
