-- What is handed over is of a trace that was decided as sampled.
-- For the law `sampled_comes_out`.
use Rattle.std.proofs.Common.{◌≡◌, ℕ, Bool, true, false, ◌==◌, List, [], ◌∷◌, ◌++◌, length, reverse, find, Option, Some, None, refl, sym, ap, subst, ◌∙◌, arith, append_assoc, length-append, eqb-true}
use Rattle.otlp_types.specs.declared.span.Ids.{Ids}
use Rattle.otlp_types.specs.declared.arrival.Arrival.{Arrival}
use Rattle.otlp_types.specs.declared.arrival.Item.TheVariants.{Span}
use Rattle.span_ids.specs.declared.ids.TraceId.{TraceId}
use Rattle.span_ids.specs.Same.{same_trace}
use Rattle.span_ids.specs.declared.outcome.Verdict.{Verdict}
use Rattle.span_ids.specs.declared.outcome.Verdict.TheVariants.{Sampled, NotSampled}
use Rattle.journal_theory.specs.Journal.{Settings, Journal, Entry, Opening, Decision, finding, latest_episode, decided_as, is_in_buffer, is_of_trace, ids_have_trace, notes, decisions_now, due_at, after_item}
use Rattle.journal_theory.specs.Fate.{is_released, fate, fate_of_member, fate_of_member_decided, fate_of_verdict, fate_of_finding}
use Rattle.span_ids.specs.declared.outcome.Reason.TheVariants.{LateNotSampled}
use Rattle.world_theory.specs.World.{settings}
use Rattle.world_theory.specs.Headline.{OfEachRun}
use Rattle.span_ids.proofs.SameTraces.{same_trace-is, same_trace-refl}
use Rattle.journal_theory.proofs.Notes.{HasRoom, Meeting, it_joins, it_meets, it_opens, meeting}
use Rattle.journal_theory.proofs.Find.{found}
use Rattle.journal_theory.proofs.ListFacts.{Each, Each-append, Each-weaker, Each-reverse, Each-split, Split, Split-behind}
use Rattle.journal_theory.proofs.Sound.{sound_notes}
use Rattle.world_theory.proofs.Decided.{same_decisions, Each-in_turn}
use Rattle.world_theory.proofs.Steps.{map_some}
use Rattle.world_theory.proofs.Single.{split_contains}
use Rattle.world_theory.proofs.Parts.{headline}
use Rattle.decision_times.specs.Times.{WasOpened}
use Rattle.decision_times.proofs.Early.{all_opened, due_opened}
use Rattle.core_laws.specs.Sampled.{OnlySampledComesOut}

-- ---- an opening by its position

-- elements with as many behind them are the same
same_element : (xs ys : Journal) (x y : Entry) (us vs : Journal) → xs ++ x ∷ us ≡ ys ++ y ∷ vs → length us ≡ length vs → x ≡ y
same_element [] [] x y us vs e l = cc e
same_element [] (z ∷ ys) x y us vs e l =
    let k = ap (λ (zs : Journal). length zs) e in absurd (omega (arith, k, l, length-append ys (y ∷ vs)))
same_element (z ∷ xs) [] x y us vs e l =
    let k = ap (λ (zs : Journal). length zs) e in absurd (omega (arith, k, l, length-append xs (x ∷ us)))
same_element (z ∷ xs) (w ∷ ys) x y us vs e l = same_element xs ys x y us vs (cc e) l

same_span : (a b : Arrival) → Span a ≡ Span b → a ≡ b
same_span a b e = cc e

same_some : (i j : Ids) → Some i ≡ Some j → i ≡ j
same_some i j e = cc e

-- openings at one position have one trace
same_opened : (J : Journal) (o p : Opening) → WasOpened J o → WasOpened J p → o.at ≡ p.at → o.trace ≡ p.trace
same_opened J o p h k e =
    let item = same_element h.later k.later h.item k.item h.before k.before (sym h.split ∙ k.split) (sym h.at ∙ e ∙ k.at) in
    let first = same_span h.first k.first (sym h.is ∙ ap (λ (x : Entry). x.item) item ∙ k.is) in
    let ids = same_some h.ids k.ids (sym h.valid ∙ ap (λ (a : Arrival). a.rec.span.ids) first ∙ k.valid) in
    h.trace ∙ ap (λ (i : Ids). i.trace) ids ∙ sym k.trace

-- a span that was taken at a position of an opening has its trace
opened_trace : (J later before : Journal) (e : Entry) (a : Arrival) (ids : Ids) (p : Opening) → J ≡ later ++ e ∷ before → e.item ≡ Span a → a.rec.span.ids ≡ Some ids → WasOpened J p → p.at ≡ length before → p.trace ≡ ids.trace
opened_trace J later before e a ids p split is valid k at =
    let item = same_element k.later later k.item e k.before before (sym k.split ∙ split) (sym k.at ∙ at) in
    let first = same_span k.first a (sym k.is ∙ ap (λ (x : Entry). x.item) item ∙ is) in
    let same = same_some k.ids ids (sym k.valid ∙ ap (λ (b : Arrival). b.rec.span.ids) first ∙ valid) in
    k.trace ∙ ap (λ (i : Ids). i.trace) same

opened_on : (later J : Journal) (o : Opening) → WasOpened J o → WasOpened (later ++ J) o
opened_on later J o h = record { later = later ++ h.later; item = h.item; before = h.before; split = ap (λ (z : Journal). later ++ z) h.split ∙ sym (append_assoc later h.later (h.item ∷ h.before)); first = h.first; is = h.is; kept = h.kept; ids = h.ids; valid = h.valid; trace = h.trace; at = h.at; moment = h.moment }

-- ---- decisions

-- the decision by which an episode was decided so, with its opening
record DecidedAt (s : Settings) (J : Journal) (at : ℕ) (v : Verdict) : Type 0 where
  decision : Decision
  made : Split decision (notes s J).decisions
  opened : WasOpened J decision.opening
  place : decision.opening.at ≡ at
  verdict : decision.verdict ≡ v

abbrev HasOpened : Journal → Decision → Type 0
HasOpened J d = WasOpened J d.opening

opened_decisions : (s : Settings) (J : Journal) → Each (HasOpened J) (notes s J).decisions
unfolding notes
opened_decisions s [] = tt
opened_decisions s (e ∷ J) =
    Each-append (HasOpened (e ∷ J)) (reverse (decisions_now s (e ∷ J))) (after_item s e J e.item (notes s J)).decisions
    (Each-reverse (HasOpened (e ∷ J)) (decisions_now s (e ∷ J)) (Each-in_turn (WasOpened (e ∷ J)) s (e ∷ J) (due_at s e J e.item (after_item s e J e.item (notes s J))) e.answers (due_opened s e J)))
    (subst (λ (ds : List Decision). Each (HasOpened (e ∷ J)) ds) (sym (same_decisions s e J e.item (notes s J)))
    (Each-weaker (HasOpened J) (HasOpened (e ∷ J)) (notes s J).decisions (λ d h. opened_on (e ∷ []) J d.opening h) (opened_decisions s J)))

decided_at : (s : Settings) (J : Journal) (at : ℕ) (v : Verdict) → decided_as (notes s J) at ≡ Some v → DecidedAt s J at v
decided_at s J at v h =
    let r = map_some (λ (d : Decision). d.verdict) (find (λ (d : Decision). d.opening.at == at) (notes s J).decisions) v h in
    let k = found (λ (d : Decision). d.opening.at == at) (notes s J).decisions r.0 r.1 in
    let made : Split r.0 (notes s J).decisions = record { front = k.front; back = k.back; is = k.is } in
    record { decision = r.0; made = made; opened = Each-split (HasOpened J) r.0 (notes s J).decisions made (opened_decisions s J); place = eqb-true r.0.opening.at at k.passes; verdict = r.2 }

-- what was decided stays among the decisions
stays : (s : Settings) (d : Decision) (later J : Journal) → Split d (notes s J).decisions → Split d (notes s (later ++ J)).decisions
unfolding notes
stays s d [] J h = h
stays s d (e ∷ later) J h =
    Split-behind d (reverse (decisions_now s (e ∷ later ++ J))) (after_item s e (later ++ J) e.item (notes s (later ++ J))).decisions
    (subst (λ (ds : List Decision). Split d ds) (sym (same_decisions s e (later ++ J) e.item (notes s (later ++ J)))) (stays s d later J h))

-- ---- a released span

-- a member is released just where its episode is decided so
decided_of_member : (b : Bool) (d : Option Verdict) → fate_of_member_decided b d ≡ is_released → d ≡ Some Sampled
decided_of_member b (Some Sampled) e = refl
decided_of_member b (Some NotSampled) e = absurd (cc e)
decided_of_member true None e = absurd (cc e)
decided_of_member false None e = absurd (cc e)

released_late : (v : Verdict) → fate_of_verdict LateNotSampled v ≡ is_released → v ≡ Sampled
released_late Sampled e = refl
released_late NotSampled e = absurd (cc e)

-- the decision to sample that a span is of
record OfSampled (s : Settings) (J : Journal) (t : TraceId) : Type 0 where
  decision : Decision
  made : Split decision (notes s J).decisions
  sampled : decision.verdict ≡ Sampled
  trace : decision.opening.trace ≡ t

module _ (s : Settings) (room : HasRoom s.num_traces) (J later before : Journal) (e : Entry) (split : J ≡ later ++ e ∷ before) (a : Arrival) (ids : Ids) (is : e.item ≡ Span a) (valid : a.rec.span.ids ≡ Some ids) where
  -- what was opened before is opened in all
  opened_in_all : (o : Opening) → WasOpened before o → WasOpened J o
  opened_in_all o h = subst (λ (z : Journal). WasOpened z o) (sym split) (opened_on later (e ∷ before) o (opened_on (e ∷ []) before o h))

  -- the trace's latest episode before
  latest_opened : (o : Opening) → latest_episode (notes s before) ids.trace ≡ Some o → WasOpened before o × (o.trace ≡ ids.trace)
  latest_opened o l =
      let k = found (λ (x : Opening). same_trace x.trace ids.trace) (notes s before).openings o l in
      (Each-split (WasOpened before) o (notes s before).openings (record { front = k.front; back = k.back; is = k.is }) (all_opened s before), same_trace-is o.trace ids.trace k.passes)

  by_member : (o : Opening) → WasOpened before o → o.trace ≡ ids.trace → fate_of_member s (notes s J) o.at ≡ is_released → OfSampled s J ids.trace
  by_member o h own f =
      let d = decided_at s J o.at Sampled (decided_of_member (is_in_buffer s (notes s J) o.at) (decided_as (notes s J) o.at) f) in
      record { decision = d.decision; made = d.made; sampled = d.verdict; trace = same_opened J d.decision.opening o d.opened (opened_in_all o h) d.place ∙ own }

  by_opening : fate_of_member s (notes s J) (length before) ≡ is_released → OfSampled s J ids.trace
  by_opening f =
      let d = decided_at s J (length before) Sampled (decided_of_member (is_in_buffer s (notes s J) (length before)) (decided_as (notes s J) (length before)) f) in
      record { decision = d.decision; made = d.made; sampled = d.verdict; trace = opened_trace J later before e a ids d.decision.opening split is valid d.opened d.place }

  by_late : (o : Opening) (v : Verdict) → latest_episode (notes s before) ids.trace ≡ Some o → decided_as (notes s before) o.at ≡ Some v → fate_of_verdict LateNotSampled v ≡ is_released → OfSampled s J ids.trace
  by_late o v l decided f =
      let h = latest_opened o l in
      let d = decided_at s before o.at v decided in
      record {
        decision = d.decision;
        made = subst (λ (z : Journal). Split d.decision (notes s z).decisions) (sym split) (stays s d.decision later (e ∷ before) (stays s d.decision (e ∷ []) before d.made));
        sampled = d.verdict ∙ released_late v f;
        trace = same_opened before d.decision.opening o d.opened h.0 d.place ∙ h.1;
      }

  by_finding : fate_of_finding s (notes s J) (length before) (finding s (notes s before) ids.trace) ≡ is_released → OfSampled s J ids.trace
  by_finding f = go (meeting s before (notes s before) ids.trace (sound_notes s room before))
    where
      go : Meeting s (notes s before) ids.trace → OfSampled s J ids.trace
      go (it_joins o newer older stands same d l n g fi) = let h = latest_opened o l in by_member o h.0 h.1 (ap (fate_of_finding s (notes s J) (length before)) (sym fi) ∙ f)
      go (it_meets o v l d g fi) = by_late o v l d (ap (fate_of_finding s (notes s J) (length before)) (sym fi) ∙ f)
      go (it_opens g fi) = by_opening (ap (fate_of_finding s (notes s J) (length before)) (sym fi) ∙ f)

  by_refusal : (refused : Bool) → fate s J before refused ids ≡ is_released → OfSampled s J ids.trace
  by_refusal true f = absurd (cc f)
  by_refusal false f = by_finding f

-- ---- the law

of_trace : (t : TraceId) (ids : Ids) (o : Option Ids) → o ≡ Some ids → t ≡ ids.trace → ids_have_trace t o ≡ true
of_trace t ids o valid e = ap (ids_have_trace t) valid ∙ ap (λ (x : TraceId). same_trace x ids.trace) e ∙ same_trace-refl ids.trace

pub only_sampled_comes_out : OfEachRun OnlySampledComesOut
only_sampled_comes_out c lanes shards steps w room run a k =
    let f = ((headline c lanes shards steps w room run).only_released a k).1 in
    let t = f.0 in
    let d = by_refusal (settings c w) room t.of.journal t.later t.before (record { item = Span t.arrival; refused = t.refused; lost = t.lost; answers = t.answers }) t.split t.arrival t.ids refl t.valid t.refused f.2 in
    let own = of_trace d.decision.opening.trace t.ids t.arrival.rec.span.ids t.valid d.trace in
    record {
      shard = t.shard;
      of = t.of;
      in_world = t.in_world;
      decision = d.decision;
      made = split_contains d.decision (notes (settings c w) t.of.journal).decisions d.made;
      sampled = d.sampled;
      of_trace = ap (is_of_trace d.decision.opening.trace) (sym f.1) ∙ own;
    }
