-- Where the policies sample all spans, none is counted as not sampled.
-- For the law `always_sample_drops_none`.
use Rattle.std.proofs.Common.{◌≡◌, ℕ, zero, suc, ◌==◌, Bool, true, false, ◌||◌, nat_lt, List, [], ◌∷◌, ◌++◌, reverse, find, slice_get, Option, Some, None, refl, sym, ap, subst, ◌∙◌}
use Rattle.otlp_types.specs.declared.arrival.Arrival.{Arrival}
use Rattle.otlp_types.specs.declared.span.Ids.{Ids}
use Rattle.span_ids.specs.declared.outcome.Verdict.{Verdict}
use Rattle.span_ids.specs.declared.outcome.Verdict.TheVariants.{Sampled, NotSampled}
use Rattle.span_ids.specs.declared.outcome.Reason.{Reason}
use Rattle.span_ids.specs.declared.outcome.Reason.TheVariants.{InvalidId, QueueFull, NoMemory, Evicted, NotSampled as DecidedAgainst, LateNotSampled, ExporterDown}
use Rattle.journal_theory.specs.Journal.{Settings, Journal, Opening, Decision, Notes, Finding, joins, meets, opens, finding, leaving, decided_as, spans_since, policies_for, decisions_in_turn, decisions_now, due_at, after_item, notes}
use Rattle.journal_theory.specs.Fate.{DroppedSpan, counts, is_same_reason, under, effect_of_verdict, effect_of_leaving, effect_of_leaving_decided, effect_of_finding, effect_of_span}
use Rattle.world_theory.specs.World.{CoreConfig, World, settings}
use Rattle.world_theory.specs.Step.{drop_batch_applies}
use Rattle.world_theory.specs.Headline.{OfEachRun}
use Rattle.journal_theory.proofs.Notes.{HasRoom, Meeting, it_joins, it_meets, it_opens, meeting}
use Rattle.journal_theory.proofs.Find.{found}
use Rattle.journal_theory.proofs.ListFacts.{Each, Each-append, Each-weaker, Each-reverse, Each-split, Split, Split-cons}
use Rattle.journal_theory.proofs.Sound.{sound_notes}
use Rattle.world_theory.proofs.Decided.{same_decisions}
use Rattle.world_theory.proofs.Steps.{Stepped, received_by, routed, refused_by, took_span, took_tick, closed_by, took_end, answered_by, decided_one, shipped, pulled, handed_over, failed, batch_dropped, map_some}
use Rattle.world_theory.proofs.OnePlace.{of_each_run}
use Rattle.core_laws.specs.Sampled.{SamplesAll, NoneAgainst, AlwaysSampleSamplesAll}

pub always_sample_samples_all : AlwaysSampleSamplesAll
always_sample_samples_all answers spans = refl

-- ---- each decision is to sample

-- settings by which each decision is to sample
abbrev Samples : Settings → Type 0
Samples s = SamplesAll s.policies × (s.maximum_trace_size ≡ 0)

own_policies : (s : Settings) → s.maximum_trace_size ≡ 0 → (spans : List Arrival) → policies_for s spans ≡ s.policies
own_policies s none spans = let small : nat_lt 0 s.maximum_trace_size ≡ false = ap (λ (n : ℕ). nat_lt 0 n) none in rw small refl

all_in_turn : (s : Settings) → Samples s → (past : Journal) (os : List Opening) (given : List (List Bool)) → Each (λ (d : Decision). d.verdict ≡ Sampled) (decisions_in_turn s past os given)
all_in_turn s h past [] given = tt
all_in_turn s h past (o ∷ os) [] = tt
all_in_turn s h past (o ∷ os) (a ∷ given) = (rw (own_policies s h.1 (spans_since past o)) (h.0 a (spans_since past o)), all_in_turn s h past os given)

all_now : (s : Settings) → Samples s → (J : Journal) → Each (λ (d : Decision). d.verdict ≡ Sampled) (decisions_now s J)
all_now s h [] = tt
all_now s h (e ∷ J) = all_in_turn s h (e ∷ J) (due_at s e J e.item (after_item s e J e.item (notes s J))) e.answers

all_sampled : (s : Settings) → Samples s → (J : Journal) → Each (λ (d : Decision). d.verdict ≡ Sampled) (notes s J).decisions
unfolding notes
all_sampled s h [] = tt
all_sampled s h (e ∷ J) =
    Each-append (λ (d : Decision). d.verdict ≡ Sampled) (reverse (decisions_now s (e ∷ J))) (after_item s e J e.item (notes s J)).decisions
    (Each-reverse (λ (d : Decision). d.verdict ≡ Sampled) (decisions_now s (e ∷ J)) (all_now s h (e ∷ J)))
    (subst (λ (ds : List Decision). Each (λ (d : Decision). d.verdict ≡ Sampled) ds) (sym (same_decisions s e J e.item (notes s J))) (all_sampled s h J))

-- so a late span meets no other
met_sampled : (s : Settings) → Samples s → HasRoom s.num_traces → (J : Journal) (ids : Ids) (o : Opening) (v : Verdict) → finding s (notes s J) ids.trace ≡ meets o v → v ≡ Sampled
met_sampled s h room J ids o v f = go (meeting s J (notes s J) ids.trace (sound_notes s room J))
  where
    go : Meeting s (notes s J) ids.trace → v ≡ Sampled
    go (it_joins x newer older e same d l n g fi) = absurd (cc (f, fi))
    go (it_opens g fi) = absurd (cc (f, fi))
    go (it_meets x u l d g fi) =
        let q : meets x u ≡ meets o v = sym fi ∙ f in
        let eu : u ≡ v = cc q in
        let r = map_some (λ (d : Decision). d.verdict) (find (λ (d : Decision). d.opening.at == x.at) (notes s J).decisions) u d in
        let k = found (λ (d : Decision). d.opening.at == x.at) (notes s J).decisions r.0 r.1 in
        sym eu ∙ sym r.2 ∙ Each-split (λ (d : Decision). d.verdict ≡ Sampled) r.0 (notes s J).decisions (record { front = k.front; back = k.back; is = k.is }) (all_sampled s h J)

-- ---- what is counted

-- under neither of the two
abbrev is_against : Reason → Bool
is_against r = is_same_reason r DecidedAgainst || is_same_reason r LateNotSampled

abbrev IsOther : DroppedSpan → Type 0
IsOther n = is_against n.reason ≡ false

counts_other : (r : Reason) → is_against r ≡ false → (spans : List Arrival) → Each IsOther (counts r spans)
counts_other r e [] = tt
counts_other r e (a ∷ spans) = (e, counts_other r e spans)

leaves_other : (spans : List Arrival) (v : Option Verdict) → Each IsOther (effect_of_leaving_decided Evicted spans v).counted
leaves_other spans None = counts_other Evicted refl spans
leaves_other spans (Some v) = tt

leaving_other : (J : Journal) (noted : Notes) (o : Option Opening) → Each IsOther (effect_of_leaving J noted o).counted
leaving_other J noted None = tt
leaving_other J noted (Some o) = leaves_other (spans_since J o) (decided_as noted o.at)

span_other : (s : Settings) → Samples s → HasRoom s.num_traces → (J : Journal) (refused : Bool) (a : Arrival) (ids : Option Ids) → Each IsOther (effect_of_span s J refused a ids).counted
span_other s h room J refused a None = tt
span_other s h room J true a (Some ids) = (refl, tt)
span_other s h room J false a (Some ids) = go (finding s (notes s J) ids.trace) refl
  where
    go : (f : Finding) → finding s (notes s J) ids.trace ≡ f → Each IsOther (effect_of_finding s J (notes s J) a f).counted
    go (joins o) e = tt
    go opens e = leaving_other J (notes s J) (leaving s.num_traces (notes s J).openings)
    go (meets o v) e = subst (λ (v : Verdict). Each IsOther (effect_of_verdict LateNotSampled (a ∷ []) v).counted) (sym (met_sampled s h room J ids o v e)) tt

decides : (spans : List Arrival) (v : Verdict) → v ≡ Sampled → Each IsOther (effect_of_verdict DecidedAgainst spans v).counted
decides spans Sampled e = tt
decides spans NotSampled e = absurd (cc e)

stands_at : (ds : List Decision) (i : ℕ) (d : Decision) → slice_get ds i ≡ Some d → Split d ds
stands_at [] i d e = absurd (cc e)
stands_at (x ∷ ds) zero d e = let same : x ≡ d = cc e in record { front = []; back = ds; is = ap (λ (y : Decision). y ∷ ds) same }
stands_at (x ∷ ds) (suc i) d e = Split-cons d x ds (stands_at ds i d e)

-- ---- every step

abbrev CountsOther : CoreConfig → World → Type 0
CountsOther c w = Samples c.shard → Each IsOther w.counted

batch_other : (c : CoreConfig) (w : World) (r : Reason) → drop_batch_applies c w r ≡ true → is_against r ≡ false
batch_other c w NoMemory e = refl
batch_other c w ExporterDown e = refl
batch_other c w InvalidId e = refl
batch_other c w QueueFull e = refl
batch_other c w Evicted e = refl
batch_other c w DecidedAgainst e = absurd (cc e)
batch_other c w LateNotSampled e = absurd (cc e)

module _ (c : CoreConfig) (room : HasRoom c.shard.num_traces) (w : World) (h : CountsOther c w) (all : Samples c.shard) where
  abbrev Holds : World → Type 0
  Holds next = Each IsOther next.counted

  more : (ns : List DroppedSpan) → Each IsOther ns → Each IsOther (w.counted ++ ns)
  more ns k = Each-append IsOther w.counted ns (h all) k

  keeps : (next : World) → Stepped c w next → Holds next
  keeps next (received_by lane ordinal moment records l g n e) = subst Holds e (more _ (counts_other InvalidId refl _))
  keeps next (routed lane i l sh a rest g m t e) = subst Holds e (h all)
  keeps next (refused_by lane i l a rest g t e) = subst Holds e (more _ (counts_other QueueFull refl (a ∷ [])))
  keeps next (took_span i refused lost sh a rest g q n m e) = subst Holds e (more _ (span_other (settings c w) all room sh.journal refused a a.rec.span.ids))
  keeps next (took_tick i moment sh g n m e) = subst Holds e (more [] tt)
  keeps next (closed_by lane l g n e) = subst Holds e (h all)
  keeps next (took_end i sender sh g n m d e) = subst Holds e (more [] tt)
  keeps next (answered_by i sh answers o g d t e) = subst Holds e (h all)
  keeps next (decided_one i sh d g t e) = subst Holds e (more _ (decides d.spans d.verdict (Each-split (λ (d : Decision). d.verdict ≡ Sampled) d (decisions_now (settings c w) sh.journal) (stands_at (decisions_now (settings c w) sh.journal) sh.dealt d t) (all_now (settings c w) all sh.journal))))
  keeps next (shipped i sh a rest g u e) = subst Holds e (h all)
  keeps next (pulled a rest u e) = subst Holds e (h all)
  keeps next (handed_over b d e) = subst Holds e (h all)
  keeps next (failed d e) = subst Holds e (h all)
  keeps next (batch_dropped r b a e) = subst Holds e (more _ (counts_other r (batch_other c w r a) w.batch))

none_under : (reason : Reason) (counted : List DroppedSpan) → Each (λ (n : DroppedSpan). is_same_reason n.reason reason ≡ false) counted → under reason counted ≡ []
none_under reason [] h = refl
none_under reason (n ∷ counted) h = rw (h.0) (none_under reason counted h.1)

pub none_against : OfEachRun NoneAgainst
none_against = of_each_run CountsOther NoneAgainst (λ c room lanes shards all. tt) (λ c room w next st h all. keeps c room w h all next st) gives
  where
    first : (a b : Bool) → (a || b) ≡ false → a ≡ false
    first true b e = cc e
    first false b e = refl

    second : (a b : Bool) → (a || b) ≡ false → b ≡ false
    second true b e = absurd (cc e)
    second false b e = e

    gives : (c : CoreConfig) → HasRoom c.shard.num_traces → (w : World) → CountsOther c w → NoneAgainst c w
    gives c room w h samples none = (
      none_under DecidedAgainst w.counted (Each-weaker IsOther (λ (n : DroppedSpan). is_same_reason n.reason DecidedAgainst ≡ false) w.counted (λ n k. first (is_same_reason n.reason DecidedAgainst) (is_same_reason n.reason LateNotSampled) k) (h (samples, none))),
      none_under LateNotSampled w.counted (Each-weaker IsOther (λ (n : DroppedSpan). is_same_reason n.reason LateNotSampled ≡ false) w.counted (λ n k. second (is_same_reason n.reason DecidedAgainst) (is_same_reason n.reason LateNotSampled) k) (h (samples, none))),
    )
