-- Each span is taken by the shard of its trace.
-- For the law `traces_stay_together`.
use Rattle.std.proofs.Common.{◌≡◌, ℕ, ◌<◌, ◌≤◌, true, List, [], ◌∷◌, ◌++◌, map, Option, Some, None, sym, ap, subst, ◌∙◌, arith, eqb-true}
use Rattle.std.proofs.lemmas.Slice.Eq.{bytes_eq-Decides}
use native.Mathlib.Decide.{ℕ_discrete}
use Rattle.otlp_types.specs.declared.arrival.Arrival.{Arrival}
use Rattle.otlp_types.specs.declared.arrival.Item.{Item}
use Rattle.otlp_types.specs.declared.arrival.Item.TheVariants.{Span, Tick, End}
use Rattle.otlp_types.specs.declared.span.Ids.{Ids}
use Rattle.span_ids.specs.Route.{shard_of}
use Rattle.lane_queue.specs.Merges.{of}
use Rattle.journal_theory.specs.Journal.{Entry}
use Rattle.journal_theory.proofs.ListFacts.{Each, Each-all, Each-append, Each-map, Each-passes, Each-reverse, Each-split, Each-weaker}
use Rattle.world_theory.specs.World.{CoreConfig, goes_to, ids_go_to}
use Rattle.world_theory.specs.Headline.{have_same_trace}
use Rattle.world_theory.proofs.Single.{contains_split}
use Rattle.span_weave.specs.Threads.{Threads, ExporterMade, Try, pushed, full, span_of, pushed_in, items_of, journal_of, Meets}
use Rattle.span_weave.proofs.Popping.{each_of_merge}
use Rattle.woven_laws.specs.Routes.{EachIsTakenByItsShard, TracesStayTogether}

each_unmap : {X Y : Type 0} (P : Y → Type 0) (f : X → Y) (xs : List X) → Each P (map f xs) → Each (λ x. P (f x)) xs
each_unmap P f [] h = tt
each_unmap P f (x ∷ xs) h = (h.0, each_unmap P f xs h.1)

-- what holds of each span that was tried holds of each that was pushed
each_pushed : (P : Arrival → Type 0) (tries : List Try) → Each P (map span_of tries) → Each P (pushed_in tries)
each_pushed P [] h = tt
each_pushed P (pushed a ∷ tries) h = (h.0, each_pushed P tries h.1)
each_pushed P (full a ∷ tries) h = each_pushed P tries h.1

same_span : (a b : Arrival) → Span a ≡ Span b → a ≡ b
same_span a b e = cc e

module _ (c : CoreConfig) (lanes shards : ℕ) (t : Threads) (end : ExporterMade) (meets : Meets c lanes shards t end) (shard : ℕ) (below : shard < shards) where
  abbrev GoesHere : Item → Type 0
  GoesHere item = (a : Arrival) → item ≡ Span a → goes_to shards shard a ≡ true

  by_sender : (sender : ℕ) → sender ≤ lanes → Dec (sender ≡ lanes) → Each (λ (e : Entry). GoesHere e.item) (of sender (t.popped shard))
  by_sender sender m (yes e) =
      let ticker : items_of sender (t.popped shard) ≡ map (λ m. Tick m) (t.ticks shard) ++ End lanes ∷ [] = ap (λ (j : ℕ). items_of j (t.popped shard)) e ∙ meets.of_ticker shard below in
      each_unmap GoesHere (λ (e : Entry). e.item) (of sender (t.popped shard)) (subst (Each GoesHere) (sym ticker)
      (Each-append GoesHere (map (λ m. Tick m) (t.ticks shard)) (End lanes ∷ [])
      (Each-map GoesHere (λ m. Tick m) (t.ticks shard) (Each-all (λ (m : ℕ). GoesHere (Tick m)) (t.ticks shard) (λ m a other. absurd (cc other))))
      ((λ a other. absurd (cc other)), tt)))
  by_sender sender m (no n) =
      let one : sender < lanes = omega (arith, m, n) in
      let tried : Each (λ (b : Arrival). goes_to shards shard b ≡ true) (map span_of (t.tries sender shard)) =
      subst (Each (λ (b : Arrival). goes_to shards shard b ≡ true)) (sym (meets.tried sender shard one below)) (Each-passes (goes_to shards shard) (t.received sender)) in
      each_unmap GoesHere (λ (e : Entry). e.item) (of sender (t.popped shard)) (subst (Each GoesHere) (sym (meets.of_lane sender shard one below))
      (Each-append GoesHere (map (λ b. Span b) (pushed_in (t.tries sender shard))) (End sender ∷ [])
      (Each-map GoesHere (λ b. Span b) (pushed_in (t.tries sender shard)) (Each-weaker (λ (b : Arrival). goes_to shards shard b ≡ true) (λ (b : Arrival). GoesHere (Span b)) (pushed_in (t.tries sender shard))
      (λ b goes a e. subst (λ (x : Arrival). goes_to shards shard x ≡ true) (same_span b a e) goes) (each_pushed (λ (b : Arrival). goes_to shards shard b ≡ true) (t.tries sender shard) tried)))
      ((λ a other. absurd (cc other)), tt)))

  all_go_here : Each (λ (e : Entry). GoesHere e.item) (journal_of t shard)
  all_go_here = Each-reverse (λ (e : Entry). GoesHere e.item) (map (λ (x : ℕ × Entry). x.1) (t.popped shard)) (Each-map (λ (e : Entry). GoesHere e.item) (λ (x : ℕ × Entry). x.1) (t.popped shard)
      (each_of_merge (λ (e : Entry). GoesHere e.item) lanes (t.popped shard) (meets.of_senders shard below) (λ j m. by_sender j m (ℕ_discrete j lanes))))

pub each_is_taken_by_its_shard : EachIsTakenByItsShard
each_is_taken_by_its_shard c lanes shards t end meets shard below a h =
    Each-split (λ (e : Entry). GoesHere c lanes shards t end meets shard below e.item) h.entry (journal_of t shard) (contains_split (journal_of t shard) h.entry h.taken) (all_go_here c lanes shards t end meets shard below) a h.is

-- spans of one trace go to one shard
one_shard : (shards first second : ℕ) (x y : Option Ids) → ids_go_to shards first x ≡ true → ids_go_to shards second y ≡ true → have_same_trace x y ≡ true → first ≡ second
one_shard shards first second None y e f same = absurd (cc e)
one_shard shards first second (Some i) None e f same = absurd (cc f)
one_shard shards first second (Some i) (Some j) e f same =
    let trace = (bytes_eq-Decides i.trace j.trace).0 same in
    sym (eqb-true (shard_of i.trace shards) first e) ∙ (ap (λ z. shard_of z shards) trace ∙ eqb-true (shard_of j.trace shards) second f)

pub traces_stay_together : TracesStayTogether
traces_stay_together c lanes shards t end meets first second l m a b h k same =
    one_shard shards first second a.rec.span.ids b.rec.span.ids (each_is_taken_by_its_shard c lanes shards t end meets first l a h) (each_is_taken_by_its_shard c lanes shards t end meets second m b k) same
