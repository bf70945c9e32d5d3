-- No span is counted as one that found a queue full but by its lane: no journal counts one so, and no batch that was given
-- up; and at ends where a push waits for room, none is refused. For the law of `Worked`.
use Rattle.std.proofs.Common.{◌≡◌, ℕ, ◌+◌, ◌<◌, Bool, true, false, not, ◌||◌, cond, List, [], ◌∷◌, ◌++◌, length, nat_lt, option_and_then, Option, Some, None, slice_get, inl, inr, refl, sym, ap, subst, ◌∙◌, arith}
use Rattle.std.proofs.lemmas.List.Elements.{All-set}
use Rattle.span_ids.specs.declared.outcome.Verdict.{Verdict}
use Rattle.span_ids.specs.declared.outcome.Verdict.TheVariants.{Sampled, NotSampled}
use Rattle.span_ids.specs.declared.outcome.Reason.{Reason}
use Rattle.span_ids.specs.declared.outcome.Reason.TheVariants.{InvalidId, QueueFull, NoMemory, Evicted, NotSampled as DecidedAgainst, LateNotSampled, ExporterDown}
use Rattle.span_ids.specs.Route.{shard_of}
use Rattle.otlp_types.specs.declared.span.Ids.{Ids}
use Rattle.otlp_types.specs.declared.arrival.Arrival.{Arrival}
use Rattle.otlp_types.specs.declared.arrival.Item.{Item}
use Rattle.otlp_types.specs.declared.arrival.Item.TheVariants.{Span, Tick, End}
use Rattle.lane_queue.specs.Ends.{EndState, WaitAs, TakesItem, IsRefused}
use Rattle.lane_seq.specs.Pushes.{TakesAt, RefusesAt, PushesOne, PushesAll}
use Rattle.journal_theory.specs.Journal.{Settings, Journal, Notes, Opening, Decision, Finding, joins, meets, opens, leaving, finding, notes, decided_as, spans_since, decisions_now}
use Rattle.journal_theory.specs.Fate.{DroppedSpan, counts, under, is_same_reason, effect, effect_of_verdict, effect_of_leaving_decided, effect_of_leaving, effect_of_finding, effect_of_span, effect_of_item, effect_of_taking, effect_of_decision, effect_of_decisions}
use Rattle.journal_theory.proofs.Counted.{under_append, under_counts}
use Rattle.world_theory.proofs.Steps.{or_both}
use Rattle.world_theory.specs.World.{CoreConfig, settings_for}
use Rattle.world_theory.specs.Step.{is_empty}
use Rattle.span_weave.specs.Threads.{Threads, ExporterAct, ExporterMade, Meets, pulled, handed_over, failed, batch_dropped, new_export, may_drop_batch, after_act, after_acts, journal_of}
use Rattle.span_weave.specs.Woven.{counted_by_lane, counted_by_shard, counted_in_all}
use Rattle.span_weave.proofs.Sums.{sum_none}
use Rattle.run_weave.proofs.Places.{each_of_all, each_at}

-- ---- journals

abbrev none_in : List DroppedSpan → Type 0
none_in counted = length (under QueueFull counted) ≡ 0

none_of : (r : Reason) (spans : List Arrival) → is_same_reason r QueueFull ≡ false → none_in (counts r spans)
none_of r spans apart = under_counts QueueFull r spans ∙ ap (λ (b : Bool). cond {A = ℕ} b (length spans) 0) apart

none_in_both : (xs ys : List DroppedSpan) → none_in xs → none_in ys → none_in (xs ++ ys)
none_in_both xs ys h k = omega (arith, under_append QueueFull xs ys, h, k)

by_verdict : (r : Reason) (spans : List Arrival) (v : Verdict) → is_same_reason r QueueFull ≡ false → none_in (effect_of_verdict r spans v).counted
by_verdict r spans Sampled apart = refl
by_verdict r spans NotSampled apart = none_of r spans apart

by_leaving_decided : (spans : List Arrival) (v : Option Verdict) → none_in (effect_of_leaving_decided Evicted spans v).counted
by_leaving_decided spans None = none_of Evicted spans refl
by_leaving_decided spans (Some v) = refl

by_leaving : (before : Journal) (noted : Notes) (o : Option Opening) → none_in (effect_of_leaving before noted o).counted
by_leaving before noted None = refl
by_leaving before noted (Some o) = by_leaving_decided (spans_since before o) (decided_as noted o.at)

by_finding : (s : Settings) (before : Journal) (noted : Notes) (a : Arrival) (f : Finding) → none_in (effect_of_finding s before noted a f).counted
by_finding s before noted a (meets o v) = by_verdict LateNotSampled (a ∷ []) v refl
by_finding s before noted a (joins o) = refl
by_finding s before noted a opens = by_leaving before noted (leaving s.num_traces noted.openings)

by_span : (s : Settings) (before : Journal) (refused : Bool) (a : Arrival) (ids : Option Ids) → none_in (effect_of_span s before refused a ids).counted
by_span s before true a None = refl
by_span s before false a None = refl
by_span s before true a (Some ids) = none_of NoMemory (a ∷ []) refl
by_span s before false a (Some ids) = by_finding s before (notes s before) a (finding s (notes s before) ids.trace)

by_item : (s : Settings) (before : Journal) (refused : Bool) (item : Item) → none_in (effect_of_item s before refused item).counted
by_item s before refused (Span a) = by_span s before refused a a.rec.span.ids
by_item s before refused (Tick m) = refl
by_item s before refused (End sender) = refl

by_decisions : (ds : List Decision) → none_in (effect_of_decisions ds).counted
by_decisions [] = refl
by_decisions (d ∷ ds) = none_in_both (effect_of_decision d).counted (effect_of_decisions ds).counted (by_verdict DecidedAgainst d.spans d.verdict refl) (by_decisions ds)

by_journal : (s : Settings) (past : Journal) → none_in (effect s past).counted
by_journal s [] = refl
by_journal s (e ∷ before) =
    none_in_both ((effect s before).counted ++ (effect_of_taking s e before).counted) (effect_of_decisions (decisions_now s (e ∷ before))).counted
    (none_in_both (effect s before).counted (effect_of_taking s e before).counted (by_journal s before) (by_item s before e.refused e.item)) (by_decisions (decisions_now s (e ∷ before)))

-- ---- the exporter

abbrev StaysSo : Option ExporterMade → Type 0
StaysSo None = Unit {0}
StaysSo (Some x) = none_in x.counted

unless : (b : Bool) (x : ExporterMade) → (b ≡ false → none_in x.counted) → StaysSo (cond b None (Some x))
unless true x h = tt
unless false x h = h refl

only_if : (b : Bool) (x : ExporterMade) → none_in x.counted → StaysSo (cond b (Some x) None)
only_if true x h = h
only_if false x h = tt

given_up_for : (c : CoreConfig) (is_down is_none : Bool) (reason : Reason) → (is_none || not (may_drop_batch c is_down reason)) ≡ false → is_same_reason reason QueueFull ≡ false
given_up_for c is_down is_none InvalidId e = refl
given_up_for c is_down is_none QueueFull e = let wrong : true ≡ false = (or_both is_none true e).1 in absurd (cc wrong)
given_up_for c is_down is_none NoMemory e = refl
given_up_for c is_down is_none Evicted e = refl
given_up_for c is_down is_none DecidedAgainst e = refl
given_up_for c is_down is_none LateNotSampled e = refl
given_up_for c is_down is_none ExporterDown e = refl

by_act : (c : CoreConfig) (x : ExporterMade) (act : ExporterAct) → none_in x.counted → StaysSo (after_act c x act)
by_act c x (pulled shard a) h = only_if (nat_lt (length x.batch) c.batch_size) (record x { batch = x.batch ++ a ∷ [] }) h
by_act c x handed_over h = unless (is_empty x.batch || x.down) (record x { handed = x.handed ++ x.batch ∷ []; batch = [] }) (λ e. h)
by_act c x failed h = unless x.down (record x { down = true }) (λ e. h)
by_act c x (batch_dropped reason) h =
    unless (is_empty x.batch || not (may_drop_batch c x.down reason)) (record x { counted = x.counted ++ counts reason x.batch; batch = [] })
    (λ e. none_in_both x.counted (counts reason x.batch) h (none_of reason x.batch (given_up_for c x.down (is_empty x.batch) reason e)))

by_acts : (c : CoreConfig) (x : ExporterMade) (acts : List ExporterAct) (end : ExporterMade) → none_in x.counted → after_acts c x acts ≡ Some end → none_in end.counted
by_acts c x [] end h e = let same : x ≡ end = cc e in subst (λ (y : ExporterMade). none_in y.counted) same h
by_acts c x (act ∷ acts) end h e = go (after_act c x act) (by_act c x act h) e (λ y k f. by_acts c y acts end k f)
  where
    go : (o : Option ExporterMade) → StaysSo o → option_and_then (λ next. after_acts c next acts) o ≡ Some end → ((y : ExporterMade) → none_in y.counted → after_acts c y acts ≡ Some end → none_in end.counted) → none_in end.counted
    go None k f rest = absurd (cc f)
    go (Some y) k f rest = rest y k f

-- ---- all threads

pub only_lanes : (c : CoreConfig) (lanes shards : ℕ) (t : Threads) (end : ExporterMade) → Meets c lanes shards t end → ((lane : ℕ) → lane < lanes → counted_by_lane t shards lane QueueFull ≡ 0) → counted_in_all c lanes shards t end QueueFull ≡ 0
only_lanes c lanes shards t end met none = omega (
  arith,
  sum_none lanes (λ lane. counted_by_lane t shards lane QueueFull) none,
  sum_none shards (λ shard. counted_by_shard c lanes t shard QueueFull) (λ shard below. by_journal (settings_for c (lanes + 1)) (journal_of t shard)),
  by_acts c new_export t.acts end refl met.exports,
)

-- ---- ends where a push waits for room

waits_at : (ends : List (EndState Item)) (place : ℕ) (end : EndState Item) → WaitAs true ends → slice_get ends place ≡ Some end → end.waits ≡ true
waits_at ends place end all at = each_at (λ (e : EndState Item). e.waits ≡ true) ends place end (each_of_all (λ (e : EndState Item). e.waits ≡ true) ends all) at

module _ (capacity : ℕ) where
  taken : (place : ℕ) (item : Item) (old new : List (EndState Item)) → TakesAt (TakesItem capacity) (IsRefused capacity) place item old new → WaitAs true old → WaitAs true new
  taken place item old new h all =
      subst (WaitAs true) (sym h.4)
      (All-set (λ (e : EndState Item). e.waits ≡ true) old place h.1 (ap (λ (e : EndState Item). e.waits) h.3.1 ∙ waits_at old place h.0 all h.2) all)

  refusing : (place : ℕ) (old new : List (EndState Item)) → RefusesAt (TakesItem capacity) (IsRefused capacity) place old new → WaitAs true old → ⊥
  refusing place old new h all = absurd (cc (waits_at old place h.0 all h.2, h.3.2))

  one_waits : (ids : Option Ids) (item : Item) (old new : List (EndState Item)) (refused : ℕ) → PushesOne (TakesItem capacity) (IsRefused capacity) ids item old refused new → WaitAs true old → (refused ≡ 0) × WaitAs true new
  one_waits None item old new refused h all = (h.0, subst (WaitAs true) (sym h.1) all)
  one_waits (Some ids) item old new refused (inl h) all = (h.0, taken (shard_of ids.trace (length old)) item old new h.1 all)
  one_waits (Some ids) item old new refused (inr h) all = absurd (refusing (shard_of ids.trace (length old)) old new h.1 all)

  pub all_wait : (arrivals : List Arrival) (old new : List (EndState Item)) (refused : ℕ) → PushesAll (TakesItem capacity) (IsRefused capacity) arrivals old refused new → WaitAs true old → (refused ≡ 0) × WaitAs true new
  all_wait [] old new refused h all = (h.0, subst (WaitAs true) (sym h.1) all)
  all_wait (a ∷ rest) old new refused h all =
      let first = one_waits a.rec.span.ids (Span a) old h.2 h.0 h.4 all in
      let others = all_wait rest h.2 new h.1 h.5 first.1 in
      (omega (arith, h.3, first.0, others.0), others.1)
