-- The parts of the headline that follow of what every step keeps.
-- For the laws of the headline, `headline` and each of its parts.
use Rattle.std.proofs.Common.{◌≡◌, ℕ, ◌+◌, ◌<◌, ◌≤◌, Bool, true, false, ◌&&◌, ◌||◌, List, [], ◌∷◌, ◌++◌, slice_get, Option, Some, inl, inr, refl, ap, sym, subst, ◌∙◌, arith, eq-eqb}
use Rattle.std.specs.List.{list_any}
use Rattle.journal_theory.proofs.Counted.{same_reason}
use Rattle.journal_theory.specs.Journal.{Entry, Settings, Journal, Opening, Finding, joins, meets, opens, finding, verdict_met, notes, IsAnswered, IsAnsweredUpTo}
use Rattle.journal_theory.specs.Fate.{Fate, waits, is_released, is_counted, fate_of_verdict, is_same_reason}
use Rattle.otlp_types.specs.declared.span.Ids.{Ids}
use Rattle.otlp_types.specs.declared.arrival.Arrival.{Arrival}
use Rattle.otlp_types.specs.declared.arrival.Item.TheVariants.{Span}
use Rattle.span_ids.specs.declared.keys.ArrivalKey.{ArrivalKey}
use Rattle.span_ids.specs.declared.outcome.Verdict.{Verdict}
use Rattle.span_ids.specs.declared.outcome.Verdict.TheVariants.{Sampled, NotSampled}
use Rattle.span_ids.specs.declared.outcome.Reason.{Reason}
use Rattle.span_ids.specs.declared.outcome.Reason.TheVariants.{InvalidId, QueueFull, NoMemory, Evicted, LateNotSampled, ExporterDown, NotSampled as DecidedAgainst}
use Rattle.world_theory.specs.World.{may_give_up, CoreConfig, CoreLane, CoreShard, World, settings, has_due, same_key}
use Rattle.journal_theory.specs.Marked.{marks_apply_to_ids, marks_apply_to}
use Rattle.world_theory.specs.Places.{Place, buffered, counted_under}
use Rattle.world_theory.specs.Headline.{TakenSpan, fate_of, HasFate, HasCause, WasReceived, is_past_release, is_where, is_where_late, is_buffered, is_span_with, was_taken, handed_spans, PlaceFitsFate, CountedWithCause, MeetsRemembered, OnlyReleased, ShipsOutput, EndsLast, OfEachRun, Headline}
use Rattle.world_theory.proofs.OnePlace.{in_one_place}
use Rattle.world_theory.proofs.Order.{in_received_order}
use Rattle.world_theory.proofs.AfterClose.{nothing_after_close}
use Rattle.journal_theory.proofs.Notes.{HasRoom}
use Rattle.journal_theory.proofs.ListFacts.{Each-left, Each-split, Split, tally-some, total}
use Rattle.world_theory.proofs.Settled.{FateIs}
use Rattle.world_theory.proofs.Balance.{occ}
use Rattle.world_theory.proofs.Received.{got_at_most_once}
use Rattle.world_theory.proofs.Released.{HasReleased}
use Rattle.world_theory.proofs.Cause.{IsReceived, HasF, Cause, Caused}
use Rattle.world_theory.proofs.RoutedOnce.{is_lane_reason, by_lane, in_journal, before_journals, in_journals}
use Rattle.world_theory.proofs.Marked.{AreMarked, marked_at}
use Rattle.world_theory.proofs.EndsLast.{ends_last as lanes_end_last}
use Rattle.world_theory.proofs.WasDecided.{was_decided}
use Rattle.world_theory.proofs.Single.{key_self, split_hit, one_hit, all_received, occ_all, in_all, contains_split, split_contains}
use Rattle.world_theory.proofs.Whole.{Whole, of_whole, of_whole_answered}
use Rattle.world_theory.proofs.AllAnswered.{AllAnswered}
use Rattle.world_theory.proofs.Stands.{Stands, on_its_way, waits_in, sent_by, in_counts, stands, has_fate_of}
use Rattle.world_theory.proofs.TakenAt.{TakenAt, waits_there, sent_there, counted_there, known_at}

-- ---- the place fits the fate

-- where something is due, a buffered span may have any fate
any_fate : (shard : ℕ) (f : Fate) → is_where shard true f (buffered shard) ≡ true
any_fate shard waits = eq-eqb shard shard refl
any_fate shard is_released = eq-eqb shard shard refl
any_fate shard (is_counted r) = eq-eqb shard shard refl

fits : (shard : ℕ) (due : Bool) (f : Fate) → (due ≡ false → f ≡ waits) → is_where shard due f (buffered shard) ≡ true
fits shard true f e = any_fate shard f
fits shard false f e = ap (λ (f : Fate). is_where shard false f (buffered shard)) (e refl) ∙ eq-eqb shard shard refl

or_left : (a b : Bool) → a ≡ true → (a || b) ≡ true
or_left a b e = ap (λ (z : Bool). z || b) e

place_fits : (c : CoreConfig) (w : World) (t : TakenSpan w) (place : Place) → TakenAt c w t place → is_where t.shard (has_due (settings c w) t.of) (fate_of c w t) place ≡ true
place_fits c w t place (waits_there p r f g) = ap (is_where t.shard (has_due (settings c w) t.of) (fate_of c w t)) p ∙ fits t.shard (has_due (settings c w) t.of) (fate_of c w t) g
place_fits c w t place (sent_there p f) = ap (λ (f : Fate). is_where t.shard (has_due (settings c w) t.of) f place) f ∙ or_left (is_past_release t.shard place) (has_due (settings c w) t.of && is_buffered t.shard place) p
place_fits c w t place (counted_there r p f) = ap (λ (f : Fate). is_where t.shard (has_due (settings c w) t.of) f place) f ∙ ap (is_where t.shard (has_due (settings c w) t.of) (is_counted r)) p ∙ or_left (is_same_reason r r) (has_due (settings c w) t.of && false) (same_reason r)

pub place_fits_fate : OfEachRun PlaceFitsFate
place_fits_fate = of_whole PlaceFitsFate (λ c room w h t. let k = known_at c room w h t in (k.0, k.1, place_fits c w t k.0 k.2))

-- ---- remembered decisions

met : (f : Finding) (v : Verdict) → verdict_met f ≡ Some v → (o : Opening) × (f ≡ meets o v)
met (joins o) v e = absurd (cc e)
met opens v e = absurd (cc e)
met (meets o u) v e = let q : u ≡ v = cc e in (o, ap (meets o) q)

not_refused : (s : Settings) (J : Journal) (refused lost : Bool) (ids : Option Ids) (i : Ids) (o : Opening) (v : Verdict) → ids ≡ Some i → finding s (notes s J) i.trace ≡ meets o v → marks_apply_to_ids s J refused lost ids ≡ true → refused ≡ false
not_refused s J refused lost ids i o v e f m = go refused (subst (λ (x : Finding). marks_apply_to s (notes s J) refused lost x ≡ true) f (subst (λ (x : Option Ids). marks_apply_to_ids s J refused lost x ≡ true) e m))
  where
    go : (refused : Bool) → marks_apply_to s (notes s J) refused lost (meets o v) ≡ true → refused ≡ false
    go false e = refl
    go true e = absurd (cc e)

late_place : (c : CoreConfig) (w : World) (t : TakenSpan w) (o : Opening) (v : Verdict) (place : Place) → finding (settings c w) (notes (settings c w) t.before) t.ids.trace ≡ meets o v → t.refused ≡ false → TakenAt c w t place → is_where_late t.shard v place ≡ true
late_place c w t o v place f r (waits_there p q (inl g) e) = absurd (cc (f, g.1))
late_place c w t o v place f r (waits_there p q (inr g) e) = absurd (cc (f, g))
late_place c w t o v place f r (sent_there p e) = go v (own_fate ∙ e)
  where
    own_fate : fate_of_verdict LateNotSampled v ≡ fate_of c w t
    own_fate = rw (r, f) refl

    go : (v : Verdict) → fate_of_verdict LateNotSampled v ≡ is_released → is_where_late t.shard v place ≡ true
    go Sampled e = p
    go NotSampled e = absurd (cc e)
late_place c w t o v place f r (counted_there reason p e) = go v (own_fate ∙ e)
  where
    own_fate : fate_of_verdict LateNotSampled v ≡ fate_of c w t
    own_fate = rw (r, f) refl

    go : (v : Verdict) → fate_of_verdict LateNotSampled v ≡ is_counted reason → is_where_late t.shard v place ≡ true
    go Sampled e = absurd (cc e)
    go NotSampled e = let q : LateNotSampled ≡ reason = cc e in ap (is_where_late t.shard NotSampled) p ∙ ap (λ (x : Reason). is_same_reason x LateNotSampled) (sym q)

-- what was taken before is answered
answered_behind : (s : Settings) (J : Journal) (dealt : ℕ) (later before : Journal) (e : Entry) → J ≡ later ++ e ∷ before → IsAnsweredUpTo s J dealt → IsAnswered s before
answered_behind s J dealt [] before e is h = (subst (λ (j : Journal). IsAnsweredUpTo s j dealt) is h).1
answered_behind s J dealt (x ∷ later) before e is h = further later (subst (λ (j : Journal). IsAnsweredUpTo s j dealt) is h).1
  where
    further : (later : Journal) → IsAnswered s (later ++ e ∷ before) → IsAnswered s before
    further [] k = k.1
    further (y ∷ later) k = further later k.1

pub meets_remembered : OfEachRun MeetsRemembered
meets_remembered = of_whole_answered MeetsRemembered gives
  where
    gives : (c : CoreConfig) → HasRoom c.shard.num_traces → (w : World) → Whole c w → AllAnswered (settings c w) w.shards → MeetsRemembered c w
    gives c room w h answered t v e =
        let s = settings c w in
        let m = met (finding (settings c w) (notes (settings c w) t.before) t.ids.trace) v e in
        let marks = marked_at (settings c w) t.later t.before (record { item = Span t.arrival; refused = t.refused; lost = t.lost; answers = t.answers }) (subst (AreMarked (settings c w)) t.split (h.marked t.shard t.of t.in_world)) in
        let r = not_refused (settings c w) t.before t.refused t.lost t.arrival.rec.span.ids t.ids m.0 v t.valid m.1 marks in
        let k = known_at c room w h t in
        (r, (k.0, k.1, late_place c w t m.0 v k.0 m.1 r k.2), was_decided (settings c w) room t.before (answered_behind (settings c w) t.of.journal t.of.dealt t.later t.before (record { item = Span t.arrival; refused = t.refused; lost = t.lost; answers = t.answers }) t.split (answered t.shard t.of t.in_world)) t.ids.trace m.0 v m.1)

-- ---- the cause of a count

taken_of : (c : CoreConfig) (w : World) (shard : ℕ) (sh : CoreShard) (a : Arrival) (became : Fate) → slice_get w.shards shard ≡ Some sh → FateIs (settings c w) sh.journal a became → HasFate c w a became
taken_of c w shard sh a became g f = (record { shard = shard; of = sh; in_world = g; arrival = a; ids = f.ids; valid = f.valid; refused = f.refused; lost = f.lost; answers = f.given; later = f.later; before = f.before; split = f.split }, refl, f.is)

has_fate : (c : CoreConfig) (w : World) (a : Arrival) (became : Fate) → HasF (settings c w) w.shards a became → HasFate c w a became
has_fate c w a became k = taken_of c w k.shard k.sh a became k.at k.fate

module _ (c : CoreConfig) (room : HasRoom c.shard.num_traces) (w : World) (h : Whole c w) where
  -- a shard that took a span of the key has it in its journal
  taken_hit : (k : ArrivalKey) → was_taken w k ≡ true → 0 < in_journals k w
  taken_hit k e = go w.shards e
    where
      go : (shards : List CoreShard) → list_any (λ (sh : CoreShard). list_any (λ (e : Entry). is_span_with k e.item) sh.journal) shards ≡ true → 0 < total (λ (sh : CoreShard). in_journal k sh.journal) shards
      go [] e = absurd (cc e)
      go (sh ∷ rest) e = here (list_any (λ (e : Entry). is_span_with k e.item) sh.journal) refl e (go rest)
        where
          here : (b : Bool) → list_any (λ (e : Entry). is_span_with k e.item) sh.journal ≡ b → (b || list_any (λ (sh : CoreShard). list_any (λ (e : Entry). is_span_with k e.item) sh.journal) rest) ≡ true → (list_any (λ (sh : CoreShard). list_any (λ (e : Entry). is_span_with k e.item) sh.journal) rest ≡ true → 0 < total (λ (sh : CoreShard). in_journal k sh.journal) rest) → 0 < in_journal k sh.journal + total (λ (sh : CoreShard). in_journal k sh.journal) rest
          here true q e f = omega (arith, tally-some (λ (e : Entry). is_span_with k e.item) sh.journal q)
          here false q e f = omega (arith, f e)

  -- what its lane counted was not taken
  not_taken : (k : ArrivalKey) → 0 < before_journals k w → was_taken w k ≡ false
  not_taken k p = go (was_taken w k) refl
    where
      go : (b : Bool) → was_taken w k ≡ b → b ≡ false
      go false e = refl
      go true e = absurd (omega (arith, taken_hit k e, h.once k, got_at_most_once k 0 w.lanes h.ordered.accounted.numbered))

  -- two received spans of one key are one
  one_received : (a b : Arrival) (i j : ℕ) (l m : CoreLane) → slice_get w.lanes i ≡ Some l → slice_get w.lanes j ≡ Some m → Split a l.received → Split b m.received → b.key ≡ a.key → b ≡ a
  one_received a b i j l m g e p q s =
      let most : occ a.key (all_received w.lanes) ≤ 1 = omega (arith, occ_all a.key w.lanes, got_at_most_once a.key 0 w.lanes h.ordered.accounted.numbered) in
      (one_hit (λ (x : Arrival). same_key x.key a.key) (all_received w.lanes) b a most (ap (λ (k : ArrivalKey). same_key k a.key) s ∙ key_self a.key) (key_self a.key) (in_all b w.lanes j m e q) (in_all a w.lanes i l g p)).0

  has_cause : (a : Arrival) (r : Reason) → (is_lane_reason r ≡ true → 0 < before_journals a.key w) → Cause (settings c w) w.shards (may_give_up c w.down) a r → HasCause c w a r
  has_cause a InvalidId f k = k
  has_cause a QueueFull f k = (k, not_taken a.key (f refl))
  has_cause a NoMemory f (inl k) = inl (has_fate c w a (is_counted NoMemory) k)
  has_cause a NoMemory f (inr k) = inr (has_fate c w a is_released k)
  has_cause a Evicted f k = has_fate c w a (is_counted Evicted) k
  has_cause a DecidedAgainst f k = has_fate c w a (is_counted DecidedAgainst) k
  has_cause a LateNotSampled f k = has_fate c w a (is_counted LateNotSampled) k
  has_cause a ExporterDown f k = (k.0, has_fate c w a is_released k.1)

  by_place : (a : Arrival) (r : Reason) → WasReceived w a → Stands c w (counted_under r) a.key → HasCause c w a r
  by_place a r got (on_its_way e p) = absurd (cc e)
  by_place a r got (waits_in i sh b g q e x) = absurd (cc e)
  by_place a r got (sent_by i sh b g q e l f) = absurd (cc l)
  by_place a r got (in_counts n p e q) =
      let x = Each-split (Caused (settings c w) w.lanes w.shards (may_give_up c w.down)) n w.counted p h.sourced.caused in
      let same : r ≡ n.reason = cc e in
      let b_is : x.b ≡ a = one_received a x.b got.lane x.received.lane got.of x.received.l got.in_world x.received.at (contains_split got.of.received a got.has) x.received.within (x.same ∙ q) in
      has_cause a r (λ l. omega (arith, split_hit (by_lane a.key) w.counted n p (ap (λ (r : Reason). is_lane_reason r && same_key n.key a.key) (sym same) ∙ ap (λ (b : Bool). b && same_key n.key a.key) l ∙ ap (λ (j : ArrivalKey). same_key j a.key) q ∙ key_self a.key)))
      (subst (λ (r : Reason). Cause (settings c w) w.shards (may_give_up c w.down) a r) (sym same) (subst (λ (b : Arrival). Cause (settings c w) w.shards (may_give_up c w.down) b n.reason) b_is x.cause))

  with_cause : CountedWithCause c w
  with_cause a r got e = by_place a r got (stands c room w h a.key (counted_under r) e)

  -- what was handed over was received and released
  released_only : OnlyReleased c w
  released_only a k =
      let place = contains_split (handed_spans w) a k in
      let r = Each-split (HasReleased (settings c w) w.shards) a (handed_spans w) place (Each-left (HasReleased (settings c w) w.shards) (handed_spans w) (w.batch ++ w.exported) h.releasing.gone) in
      let g = Each-split (IsReceived w.lanes) a (handed_spans w) place (Each-left (IsReceived w.lanes) (handed_spans w) (w.batch ++ w.exported) h.sourced.gone) in
      (record { lane = g.lane; of = g.l; in_world = g.at; has = split_contains a g.l.received g.within }, taken_of c w r.shard r.sh a is_released r.at (has_fate_of (settings c w) r.sh.journal a r.released))

pub counted_with_cause : OfEachRun CountedWithCause
counted_with_cause = of_whole CountedWithCause with_cause

pub only_released : OfEachRun OnlyReleased
only_released = of_whole OnlyReleased released_only

pub ships_output : OfEachRun ShipsOutput
ships_output = of_whole ShipsOutput (λ c room w h. h.shipped)

pub ends_last : OfEachRun (λ c w. EndsLast w)
ends_last = of_whole (λ c w. EndsLast w) (λ c room w h. lanes_end_last w h.ended)

-- all parts
pub headline : Headline
headline c lanes shards steps w room e = record {
  one_place = in_one_place c lanes shards steps w room e;
  fits = place_fits_fate c lanes shards steps w room e;
  cause = counted_with_cause c lanes shards steps w room e;
  order = in_received_order c lanes shards steps w room e;
  remembered = meets_remembered c lanes shards steps w room e;
  only_released = only_released c lanes shards steps w room e;
  ships = ships_output c lanes shards steps w room e;
  ends_last = ends_last c lanes shards steps w room e;
  after_close = nothing_after_close c lanes shards steps w room e;
}
