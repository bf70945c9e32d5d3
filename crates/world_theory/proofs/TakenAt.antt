-- Where a span stands that a shard took, by its fate.
-- For the laws of the headline, `headline` and each of its parts.
use Rattle.std.proofs.Common.{List, ◌≡◌, ℕ, ◌<◌, ◌≤◌, Bool, true, false, ◌&&◌, [], ◌∷◌, ◌++◌, length, slice_get, Some, ◌⊎◌, inl, inr, refl, ap, sym, subst, ◌∙◌, arith}
use Rattle.journal_theory.specs.Journal.{Entry, Settings, Journal, Opening, joins, opens, finding, notes}
use Rattle.journal_theory.specs.Fate.{Fate, waits, is_released, is_counted, fate, DroppedSpan}
use Rattle.otlp_types.specs.declared.span.Ids.{Ids}
use Rattle.otlp_types.specs.declared.arrival.Arrival.{Arrival}
use Rattle.otlp_types.specs.declared.arrival.Item.TheVariants.{Span}
use Rattle.span_ids.specs.declared.keys.ArrivalKey.{ArrivalKey}
use Rattle.span_ids.specs.declared.outcome.Reason.{Reason}
use Rattle.span_ids.specs.declared.outcome.Reason.TheVariants.{InvalidId, QueueFull, NoMemory, Evicted, LateNotSampled, ExporterDown, NotSampled as DecidedAgainst}
use Rattle.world_theory.specs.World.{may_give_up, CoreConfig, CoreShard, World, settings, has_due, same_key}
use Rattle.world_theory.specs.Places.{Place, buffered, counted_under, places}
use Rattle.world_theory.specs.Headline.{TakenSpan, fate_of, is_past_release, is_span_with}
use Rattle.journal_theory.proofs.Notes.{HasRoom}
use Rattle.journal_theory.proofs.ListFacts.{Each-split, Split, tally}
use Rattle.world_theory.proofs.Content.{all_dealt}
use Rattle.world_theory.proofs.Settled.{FateIs}
use Rattle.world_theory.proofs.Balance.{got, length_places}
use Rattle.world_theory.proofs.Received.{got_at_most_once}
use Rattle.world_theory.proofs.Cause.{HasF, Cause, Caused}
use Rattle.world_theory.proofs.RoutedOnce.{is_lane_reason, by_lane, in_journal, before_journals, in_journals}
use Rattle.world_theory.proofs.Single.{key_self, split_hit, one_hit, total-at, one_at, one_long}
use Rattle.world_theory.proofs.Stands.{waits_fate, Stands, on_its_way, waits_in, sent_by, in_counts, stands}
use Rattle.world_theory.proofs.Whole.{Whole}

-- by its fate, where a span stands that a shard took
pub data TakenAt (c : CoreConfig) (w : World) (t : TakenSpan w) (place : Place) : Type 0 where
  waits_there : place ≡ buffered t.shard → t.refused ≡ false
      → ((o : Opening) × (finding (settings c w) (notes (settings c w) t.before) t.ids.trace ≡ joins o)) ⊎ (finding (settings c w) (notes (settings c w) t.before) t.ids.trace ≡ opens)
      → (has_due (settings c w) t.of ≡ false → fate_of c w t ≡ waits) → TakenAt c w t place
  sent_there : is_past_release t.shard place ≡ true → fate_of c w t ≡ is_released → TakenAt c w t place
  counted_there : (r : Reason) → place ≡ counted_under r → fate_of c w t ≡ is_counted r → TakenAt c w t place

module _ (c : CoreConfig) (room : HasRoom c.shard.num_traces) (w : World) (h : Whole c w) (t : TakenSpan w) where
  abbrev s : Settings
  s = settings c w

  abbrev k : ArrivalKey
  k = t.arrival.key

  abbrev entry : Entry
  entry = record { item = Span t.arrival; refused = t.refused; lost = t.lost; answers = t.answers }

  own_split : Split entry t.of.journal
  own_split = record { front = t.later; back = t.before; is = t.split }

  own_hit : 0 < in_journal k t.of.journal
  own_hit = split_hit (λ (e : Entry). is_span_with k e.item) t.of.journal entry own_split (key_self k)

  at_most : got k w ≤ 1
  at_most = got_at_most_once k 0 w.lanes h.ordered.accounted.numbered

  in_one : in_journals k w ≤ 1
  in_one = omega (arith, h.once k, at_most)

  pub was_routed : before_journals k w ≡ 0
  was_routed = omega (arith, h.once k, at_most, own_hit, total-at (λ (sh : CoreShard). in_journal k sh.journal) w.shards t.shard t.of t.in_world)

  pub one_place : (place : Place) × (places c w k ≡ place ∷ [])
  one_place = one_long (places c w k) (omega (arith, length_places k c w, h.ordered.accounted.balanced k, h.once k, at_most, own_hit, total-at (λ (sh : CoreShard). in_journal k sh.journal) w.shards t.shard t.of t.in_world))

  -- an entry with its key is its own
  record IsOwn (i : ℕ) (sh : CoreShard) (a : Arrival) (refused : Bool) (before : Journal) : Type 0 where
    shard : i ≡ t.shard
    of : sh ≡ t.of
    arrival : a ≡ t.arrival
    refusal : refused ≡ t.refused
    past : before ≡ t.before

  own : (i : ℕ) (sh : CoreShard) (a : Arrival) (refused lost : Bool) (given : List (List Bool)) (later before : Journal) → slice_get w.shards i ≡ Some sh → a.key ≡ k → sh.journal ≡ later ++ record { item = Span a; refused = refused; lost = lost; answers = given } ∷ before → IsOwn i sh a refused before
  unfolding own_split
  own i sh a refused lost given later before g q is =
      let e : Entry = record { item = Span a; refused = refused; lost = lost; answers = given } in
      let hit : same_key a.key k ≡ true = ap (λ (j : ArrivalKey). same_key j k) q ∙ key_self k in
      let place : Split (record { item = Span a; refused = refused; lost = lost; answers = given }) sh.journal = record { front = later; back = before; is = is } in
      let i_is : i ≡ t.shard = one_at (λ (sh : CoreShard). in_journal k sh.journal) w.shards i t.shard sh t.of in_one g t.in_world (split_hit (λ (e : Entry). is_span_with k e.item) sh.journal (record { item = Span a; refused = refused; lost = lost; answers = given }) place hit) own_hit in
      let both : Some sh ≡ Some t.of = sym g ∙ ap (slice_get w.shards) i_is ∙ t.in_world in
      let sh_is : sh ≡ t.of = cc both in
      let there : Split (record { item = Span a; refused = refused; lost = lost; answers = given }) t.of.journal = record { front = later; back = before; is = ap (λ (sh : CoreShard). sh.journal) (sym sh_is) ∙ is } in
      let few : tally (λ (e : Entry). is_span_with k e.item) t.of.journal ≤ 1 = omega (arith, in_one, total-at (λ (sh : CoreShard). in_journal k sh.journal) w.shards t.shard t.of t.in_world) in
      let same = one_hit (λ (e : Entry). is_span_with k e.item) t.of.journal (record { item = Span a; refused = refused; lost = lost; answers = given }) entry few hit (key_self k) there own_split in
      let items : Span a ≡ Span t.arrival = ap (λ (e : Entry). e.item) same.0 in
      record { shard = i_is; of = sh_is; arrival = cc items; refusal = ap (λ (e : Entry). e.refused) same.0; past = same.1 }

  own_ids : (a : Arrival) (ids : Ids) → a ≡ t.arrival → a.rec.span.ids ≡ Some ids → ids ≡ t.ids
  own_ids a ids e v = let q : Some ids ≡ Some t.ids = sym v ∙ ap (λ (a : Arrival). a.rec.span.ids) e ∙ t.valid in cc q

  own_fate : (J before : Journal) (refused : Bool) (ids : Ids) → J ≡ t.of.journal → before ≡ t.before → refused ≡ t.refused → ids ≡ t.ids → fate s J before refused ids ≡ fate_of c w t
  own_fate J before refused ids p q r e = λ i. fate s (p i) (q i) (r i) (e i)

  by_fate : (i : ℕ) (sh : CoreShard) (a : Arrival) (became : Fate) → slice_get w.shards i ≡ Some sh → a.key ≡ k → FateIs s sh.journal a became → (i ≡ t.shard) × (fate_of c w t ≡ became)
  by_fate i sh a became g q f =
      let o = own i sh a f.refused f.lost f.given f.later f.before g q f.split in
      (o.shard, sym (own_fate sh.journal f.before f.refused f.ids (ap (λ (sh : CoreShard). sh.journal) o.of) o.past o.refusal (own_ids a f.ids o.arrival f.valid)) ∙ f.is)

  -- a count, by its cause
  by_count : (place : Place) (n : DroppedSpan) → Split n w.counted → place ≡ counted_under n.reason → n.key ≡ k → Caused s w.lanes w.shards (may_give_up c w.down) n → TakenAt c w t place
  by_count place n p e q x = go n.reason refl x.cause
    where
      counted : (r : Reason) → n.reason ≡ r → HasF s w.shards x.b (is_counted r) → TakenAt c w t place
      counted r m f = let b = by_fate f.shard f.sh x.b (is_counted r) f.at (x.same ∙ q) f.fate in counted_there r (e ∙ ap counted_under m) b.1

      released : (r : Reason) → n.reason ≡ r → is_past_release t.shard (counted_under r) ≡ true → HasF s w.shards x.b is_released → TakenAt c w t place
      released r m l f = let b = by_fate f.shard f.sh x.b is_released f.at (x.same ∙ q) f.fate in sent_there (ap (is_past_release t.shard) (e ∙ ap counted_under m) ∙ l) b.1

      on_lane : (r : Reason) → n.reason ≡ r → is_lane_reason r ≡ true → TakenAt c w t place
      on_lane r m l = absurd (omega (arith, was_routed, split_hit (by_lane k) w.counted n p (ap (λ (r : Reason). is_lane_reason r && same_key n.key k) m ∙ ap (λ (b : Bool). b && same_key n.key k) l ∙ ap (λ (j : ArrivalKey). same_key j k) q ∙ key_self k)))

      go : (r : Reason) → n.reason ≡ r → Cause s w.shards (may_give_up c w.down) x.b r → TakenAt c w t place
      go InvalidId m f = on_lane InvalidId m refl
      go QueueFull m f = on_lane QueueFull m refl
      go NoMemory m (inl f) = counted NoMemory m f
      go NoMemory m (inr f) = released NoMemory m refl f
      go Evicted m f = counted Evicted m f
      go DecidedAgainst m f = counted DecidedAgainst m f
      go LateNotSampled m f = counted LateNotSampled m f
      go ExporterDown m f = released ExporterDown m refl f.1

  pub taken_at : (place : Place) → Stands c w place k → TakenAt c w t place
  taken_at place (on_its_way e p) = absurd (omega (arith, was_routed))
  taken_at place (sent_by i sh a g q e l f) = let b = by_fate i sh a is_released g q f in sent_there (ap (λ (n : ℕ). is_past_release n place) (sym b.0) ∙ e) b.1
  taken_at place (in_counts n p e q) = by_count place n p e q (Each-split (Caused s w.lanes w.shards (may_give_up c w.down)) n w.counted p h.sourced.caused)
  taken_at place (waits_in i sh a g q e x) =
      let j = x.joined in
      let o = own i sh a false j.lost j.given j.later j.before g q j.split in
      let ids = own_ids a j.ids o.arrival j.valid in
      waits_there (e ∙ ap buffered o.shard) (sym o.refusal) (found j.holds o.past ids) (λ n.
      let n' = subst (λ (sh : CoreShard). has_due s sh ≡ false) (sym o.of) n in
      sym (own_fate sh.journal j.before false j.ids (ap (λ (sh : CoreShard). sh.journal) o.of) o.past o.refusal ids) ∙ waits_fate s sh.journal sh.dealt a (all_dealt s sh.journal sh.dealt n') x)
    where
      found : (finding s (notes s x.joined.before) x.joined.ids.trace ≡ joins x.opening) ⊎ ((finding s (notes s x.joined.before) x.joined.ids.trace ≡ opens) × (length x.joined.before ≡ x.opening.at)) → x.joined.before ≡ t.before → x.joined.ids ≡ t.ids
          → ((o : Opening) × (finding s (notes s t.before) t.ids.trace ≡ joins o)) ⊎ (finding s (notes s t.before) t.ids.trace ≡ opens)
      found (inl f) p q = let z : finding s (notes s x.joined.before) x.joined.ids.trace ≡ finding s (notes s t.before) t.ids.trace = λ i. finding s (notes s (p i)) (q i).trace in inl (x.opening, sym z ∙ f)
      found (inr f) p q = let z : finding s (notes s x.joined.before) x.joined.ids.trace ≡ finding s (notes s t.before) t.ids.trace = λ i. finding s (notes s (p i)) (q i).trace in inr (sym z ∙ f.0)

  pub known_at : (place : Place) × (places c w k ≡ place ∷ []) × TakenAt c w t place
  known_at = (one_place.0, one_place.1, taken_at one_place.0 (stands c room w h k one_place.0 one_place.1))
