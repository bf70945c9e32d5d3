-- A remembered verdict is that of a decision on the spans buffered then.
-- For the laws of the headline, `headline` and each of its parts.
use Rattle.std.proofs.Common.{◌≡◌, ℕ, ◌<◌, Bool, true, false, cond, ◌==◌, List, [], ◌∷◌, ◌++◌, length, reverse, find, slice_get, Option, Some, None, refl, ap, sym, subst, ◌∙◌, arith, eqb-true}
use Rattle.std.proofs.lemmas.Bool.{and_parts}
use Rattle.span_ids.specs.Same.{same_trace}
use Rattle.journal_theory.specs.Journal.{Settings, Journal, Opening, Decision, Notes, in_buffer, decided_as, undecided, latest_episode, Finding, joins, meets, opens, finding, due_at, policies_for, decision, decisions_in_turn, after_finding, after_span, after_item, decisions_at, decisions_now, notes, due_now, Entry, spans_since, are_each_answered, IsAnswered}
use Rattle.policy_eval.specs.Given.{are_answered}
use Rattle.otlp_types.specs.declared.span.Ids.{Ids}
use Rattle.span_ids.specs.declared.ids.TraceId.{TraceId}
use Rattle.otlp_types.specs.declared.arrival.Item.{Item}
use Rattle.otlp_types.specs.declared.arrival.Item.TheVariants.{Span, Tick, End}
use Rattle.span_ids.specs.declared.outcome.Verdict.{Verdict}
use Rattle.world_theory.specs.Headline.{WasDecided}
use Rattle.journal_theory.proofs.Notes.{HasRoom, is_open, IsOlder, Sound, buffer_front, Meeting, it_joins, it_meets, it_opens, meeting}
use Rattle.journal_theory.proofs.ListFacts.{Each, Each-append, Each-weaker, Each-reverse, Each-split, Pairs, Split, Split-cons, Split-more}
use Rattle.world_theory.proofs.Steps.{map_some}
use Rattle.journal_theory.proofs.Find.{found}
use Rattle.journal_theory.proofs.Sound.{sound_notes}
use Rattle.world_theory.proofs.Dealing.{Each-due, undecided_stand}
use Rattle.world_theory.proofs.Decided.{same_decisions, Each-in_turn}

-- of these episodes, decided in turn, the one of a decision, with those before it and its answers
record InOrder (s : Settings) (J : Journal) (os : List Opening) (given : List (List Bool)) (d : Decision) : Type 0 where
  sooner : List Opening
  rest : List Opening
  due : os ≡ sooner ++ d.opening ∷ rest
  answers : List Bool
  there : slice_get given (length sooner) ≡ Some answers
  is : d ≡ decision s J d.opening answers

in_order : (s : Settings) (J : Journal) (os : List Opening) (given : List (List Bool)) → Each (InOrder s J os given) (decisions_in_turn s J os given)
in_order s J [] given = tt
in_order s J (o ∷ os) [] = tt
in_order s J (o ∷ os) (a ∷ given) = (
  record { sooner = []; rest = os; due = refl; answers = a; there = refl; is = refl },
  Each-weaker (InOrder s J os given) (InOrder s J (o ∷ os) (a ∷ given)) (decisions_in_turn s J os given)
      (λ d k. record { sooner = o ∷ k.sooner; rest = k.rest; due = ap (λ (z : List Opening). o ∷ z) k.due; answers = k.answers; there = k.there; is = k.is }) (in_order s J os given),
)

-- where a decision was made
record MadeAt (s : Settings) (J : Journal) (d : Decision) : Type 0 where
  since : Journal
  item : Entry
  past : Journal
  split : J ≡ since ++ item ∷ past
  turn : InOrder s (item ∷ past) (due_now s (item ∷ past)) item.answers d

all_made : (s : Settings) (J : Journal) → Each (MadeAt s J) (notes s J).decisions
unfolding notes
all_made s [] = tt
all_made s (e ∷ J) = Each-append (MadeAt s (e ∷ J)) (reverse ds) (after_item s e J e.item (notes s J)).decisions
    (Each-reverse (MadeAt s (e ∷ J)) ds (Each-weaker (InOrder s (e ∷ J) (due_now s (e ∷ J)) e.answers) (MadeAt s (e ∷ J)) ds
    (λ d p. record { since = []; item = e; past = J; split = refl; turn = p }) (in_order s (e ∷ J) (due_now s (e ∷ J)) e.answers)))
    (subst (λ z. Each (MadeAt s (e ∷ J)) z) (sym (same_decisions s e J e.item (notes s J)))
    (Each-weaker (MadeAt s J) (MadeAt s (e ∷ J)) (notes s J).decisions (λ d m. record { since = e ∷ m.since; item = m.item; past = m.past; split = ap (λ (z : Journal). e ∷ z) m.split; turn = m.turn }) (all_made s J)))
  where
    ds : List Decision
    ds = decisions_now s (e ∷ J)

-- ---- a decision's opening is among the openings

opened_stays : (s : Settings) (e : Entry) (J : Journal) (item : Item) (noted : Notes) (o : Opening) → Split o noted.openings → Split o (after_item s e J item noted).openings
opened_stays s e J (Tick m) noted o h = h
opened_stays s e J (End i) noted o h = h
opened_stays s e J (Span a) noted o h = go a.rec.span.ids
  where
    by_finding : (t : TraceId) (f : Finding) (now : ℕ) → Split o (after_finding s t e.lost (length J) now noted f).openings
    by_finding t (joins p) now = h
    by_finding t (meets p v) now = h
    by_finding t opens now = Split-cons o (record { at = length J; trace = t; moment = now }) noted.openings h

    marked : (ids : Ids) (b : Bool) (now : ℕ) → Split o (cond b noted (after_finding s ids.trace e.lost (length J) now noted (finding s noted ids.trace))).openings
    marked ids true now = h
    marked ids false now = by_finding ids.trace (finding s noted ids.trace) now

    go : (ids : Option Ids) → Split o (after_span s ids e J noted).openings
    go None = h
    go (Some ids) = marked ids e.refused _

opened_decisions : (s : Settings) (J : Journal) → Each (λ (d : Decision). Split d.opening (notes s J).openings) (notes s J).decisions
unfolding notes
opened_decisions s [] = tt
opened_decisions s (e ∷ J) = Each-append (λ (d : Decision). Split d.opening os) (reverse ds) (after_item s e J e.item (notes s J)).decisions
    (Each-reverse (λ (d : Decision). Split d.opening os) ds (Each-in_turn (λ (o : Opening). Split o os) s (e ∷ J) (due_at s e J e.item noted) e.answers
    (Each-due (λ (o : Opening). Split o os) s e J e.item noted (Each-weaker (λ (o : Opening). Split o (in_buffer s noted) × (is_open noted o ≡ true)) (λ (o : Opening). Split o os) (undecided s noted)
    (λ o p. subst (λ (z : List Opening). Split o z) (sym fr.1) (Split-more o (in_buffer s noted) fr.0 p.0)) (undecided_stand s noted)))))
    (subst (λ z. Each (λ (d : Decision). Split d.opening os) z) (sym (same_decisions s e J e.item (notes s J)))
    (Each-weaker (λ (d : Decision). Split d.opening (notes s J).openings) (λ (d : Decision). Split d.opening os) (notes s J).decisions (λ d p. opened_stays s e J e.item (notes s J) d.opening p) (opened_decisions s J)))
  where
    noted : Notes
    noted = after_item s e J e.item (notes s J)

    ds : List Decision
    ds = decisions_at s e J noted

    os : List Opening
    os = noted.openings

    fr : (rest : List Opening) × (os ≡ in_buffer s noted ++ rest)
    fr = buffer_front s.num_traces os

-- two openings at one position are one
unique_at : (os : List Opening) → Pairs IsOlder os → (x y : Opening) → Split x os → Split y os → x.at ≡ y.at → x ≡ y
unique_at os h x y p q e = go os h p.front q.front p.is q.is
  where
    later : (o z : Opening) (os front back : List Opening) → Each (IsOlder o) os → os ≡ front ++ z ∷ back → z.at < o.at
    later o z os front back h e = Each-split (IsOlder o) z os (record { front = front; back = back; is = e }) h

    go : (os : List Opening) → Pairs IsOlder os → (f g : List Opening) → os ≡ f ++ x ∷ p.back → os ≡ g ++ y ∷ q.back → x ≡ y
    go [] h [] g a b = absurd (cc a)
    go [] h (z ∷ f) g a b = absurd (cc a)
    go (o ∷ os) h [] [] a b = cc (a, b)
    go (o ∷ os) h [] (z ∷ g) a b = let k : o ≡ x = cc a in let m : os ≡ g ++ y ∷ q.back = cc b in let l = later o y os g q.back h.0 m in let n : o.at ≡ x.at = ap (λ (o : Opening). o.at) k in absurd (omega arith)
    go (o ∷ os) h (z ∷ f) [] a b = let k : o ≡ y = cc b in let m : os ≡ f ++ x ∷ p.back = cc a in let l = later o x os f p.back h.0 m in let n : o.at ≡ y.at = ap (λ (o : Opening). o.at) k in absurd (omega arith)
    go (o ∷ os) h (z ∷ f) (u ∷ g) a b = go os h.1 f g (cc a) (cc b)

-- ---- its answers

behind : (s : Settings) (since : Journal) (item : Entry) (past : Journal) → IsAnswered s (since ++ item ∷ past) → are_each_answered s (item ∷ past) (due_now s (item ∷ past)) item.answers ≡ true
behind s [] item past h = h.0
behind s (e ∷ since) item past h = behind s since item past h.1

each_there : (s : Settings) (past : Journal) (sooner rest : List Opening) (o : Opening) (given : List (List Bool)) (answers : List Bool) → are_each_answered s past (sooner ++ o ∷ rest) given ≡ true →
    slice_get given (length sooner) ≡ Some answers → are_answered (policies_for s (spans_since past o)) answers (spans_since past o) ≡ true
each_there s past [] rest o [] answers h e = cc
each_there s past [] rest o (g ∷ given) answers h e =
    let same : g ≡ answers = cc in
    ap (λ (x : List Bool). are_answered (policies_for s (spans_since past o)) x (spans_since past o)) (sym same) ∙ (and_parts (are_answered (policies_for s (spans_since past o)) g (spans_since past o)) (are_each_answered s past rest given) h).0
each_there s past (p ∷ sooner) rest o [] answers h e = cc
each_there s past (p ∷ sooner) rest o (g ∷ given) answers h e =
    each_there s past sooner rest o given answers (and_parts (are_answered (policies_for s (spans_since past p)) g (spans_since past p)) (are_each_answered s past (sooner ++ o ∷ rest) given) h).1 e

pub was_decided : (s : Settings) → HasRoom s.num_traces → (J : Journal) → IsAnswered s J → (t : TraceId) (o : Opening) (v : Verdict) → finding s (notes s J) t ≡ meets o v → WasDecided s J t v
was_decided s room J answered t o v f = go (meeting s J (notes s J) t sound)
  where
    sound : Sound s J (notes s J)
    sound = sound_notes s room J

    by_decision : latest_episode (notes s J) t ≡ Some o → decided_as (notes s J) o.at ≡ Some v → WasDecided s J t v
    by_decision l d =
        let r = map_some (λ (d : Decision). d.verdict) (find (λ (d : Decision). d.opening.at == o.at) (notes s J).decisions) v d in
        let k = found (λ (d : Decision). d.opening.at == o.at) (notes s J).decisions r.0 r.1 in
        let place : Split r.0 (notes s J).decisions = record { front = k.front; back = k.back; is = k.is } in
        let m = Each-split (MadeAt s J) r.0 (notes s J).decisions place (all_made s J) in
        let p = Each-split (λ (d : Decision). Split d.opening (notes s J).openings) r.0 (notes s J).decisions place (opened_decisions s J) in
        let lo = found (λ (x : Opening). same_trace x.trace t) (notes s J).openings o l in
        let same : r.0.opening ≡ o = unique_at (notes s J).openings sound.ordered r.0.opening o p (record { front = lo.front; back = lo.back; is = lo.is }) (eqb-true r.0.opening.at o.at k.passes) in
        let due = m.turn.due ∙ ap (λ (z : Opening). m.turn.sooner ++ z ∷ m.turn.rest) same in
        let each = behind s m.since m.item m.past (subst (IsAnswered s) m.split answered) in
        let E = λ (os : List Opening). are_each_answered s (m.item ∷ m.past) os m.item.answers ≡ true in
        record {
          since = m.since;
          item = m.item;
          past = m.past;
          split = m.split;
          opening = o;
          latest = l;
          sooner = m.turn.sooner;
          rest = m.turn.rest;
          due = due;
          answers = m.turn.answers;
          given = m.turn.there;
          enough = each_there s (m.item ∷ m.past) m.turn.sooner m.turn.rest o m.item.answers m.turn.answers (subst E due each) m.turn.there;
          verdict = sym r.2 ∙ ap (λ (d : Decision). d.verdict) m.turn.is ∙ ap (λ (z : Opening). (decision s (m.item ∷ m.past) z m.turn.answers).verdict) same;
        }

    go : Meeting s (notes s J) t → WasDecided s J t v
    go (it_joins x newer older e same d l n g fi) = absurd (cc (f, fi))
    go (it_opens g fi) = absurd (cc (f, fi))
    go (it_meets x u l d g fi) =
        let q : meets x u ≡ meets o v = sym fi ∙ f in
        let ex : x ≡ o = cc q in
        let eu : u ≡ v = cc q in
        by_decision (l ∙ ap (λ (x : Opening). Some x) ex) (ap (λ (x : Opening). decided_as (notes s J) x.at) (sym ex) ∙ d ∙ ap (λ (v : Verdict). Some v) eu)
