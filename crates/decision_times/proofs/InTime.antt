-- Each decision was made at the first item at which it had a cause.
-- For the law `never_too_early`.
use Rattle.std.proofs.Common.{◌≡◌, ℕ, ◌<◌, ◌≤◌, ◌==◌, Bool, true, false, cond, List, [], ◌∷◌, length, reverse, find, Option, Some, None, is_none, option_map, option_to_list, refl, sym, ap, subst, ◌∙◌, arith, length-append}
use Rattle.otlp_types.specs.declared.span.Ids.{Ids}
use Rattle.otlp_types.specs.declared.arrival.Item.{Item}
use Rattle.otlp_types.specs.declared.arrival.Item.TheVariants.{Span, Tick, End}
use Rattle.span_ids.specs.declared.ids.TraceId.{TraceId}
use Rattle.span_size.specs.Size.{size_of}
use Rattle.journal_theory.specs.Journal.{Settings, Journal, Entry, Opening, Decision, Notes, Finding, joins, meets, opens, finding, leaving, clock, spans_since, have_ended, StoppedInTime, IsAnswered, IsAnsweredUpTo, due_at, in_buffer, undecided, decisions_in_turn, decisions_now, after_finding, after_span, after_item, notes}
use Rattle.journal_theory.specs.Standing.{mark}
use Rattle.journal_theory.proofs.ListFacts.{Each, Each-append, Each-left, Each-weaker, Each-reverse, Each-split, Split}
use Rattle.journal_theory.proofs.Notes.{HasRoom, is_open, spans_before}
use Rattle.journal_theory.proofs.Sound.{makes_room}
use Rattle.journal_theory.proofs.Due.{mark-clock, stopped-before}
use Rattle.world_theory.proofs.Decided.{same_decisions}
use Rattle.world_theory.proofs.Dealing.{Each-due, undecided_stand}
use Rattle.decision_times.specs.Times.{WasOpened, HasRoot, Cause, HasTime, WasInTime}
use Rattle.decision_times.proofs.Early.{due_opened, due_caused}
use Rattle.decision_times.proofs.Late.{open_have_time}

-- ---- a trace that was just opened has its time to come

size_of_none : size_of [] ≡ 0
unfolding size_of
size_of_none = refl

no_root : (root_wait now : ℕ) (J : Journal) (o : Opening) → length J ≤ o.at → HasRoot root_wait now J o → ⊥
no_root root_wait now J o l h =
    let e = ap (λ (z : Journal). length z) h.split in
    let since = h.since in
    absurd (omega (arith, e, since, length-append h.later (h.item ∷ h.before)))

module _ (s : Settings) (room : HasRoom s.num_traces) (wait : 0 < s.decision_wait) (e : Entry) (J : Journal) (running : have_ended J s.senders ≡ false) where
  new_has_time : (t : TraceId) → HasTime s J (record { at = length J; trace = t; moment = clock (e ∷ J) })
  new_has_time t =
      let o : Opening = record { at = length J; trace = t; moment = clock (e ∷ J) } in
      let none : size_of (spans_since J o) ≡ 0 = ap size_of (spans_before J (record { at = length J; trace = t; moment = clock (e ∷ J) }) (omega arith)) ∙ size_of_none in
      record {
        wait = omega (arith, mark-clock s room J);
        root_wait = λ on. no_root s.root_wait (mark J) J (record { at = length J; trace = t; moment = clock (e ∷ J) }) (omega arith);
        size = λ on. omega (arith, none);
        senders = running;
      }

  -- what stands undecided in the buffer
  abbrev WaitsIn : Notes → Opening → Type 0
  WaitsIn noted o = is_open noted o ≡ true → HasTime s J o

  by_finding : (noted : Notes) → Each (WaitsIn noted) (in_buffer s noted) → (t : TraceId) (lost : Bool) (f : Finding)
      → Each (WaitsIn noted) (in_buffer s (after_finding s t lost (length J) (clock (e ∷ J)) noted f))
  by_finding noted h t lost (joins o) = h
  by_finding noted h t lost (meets o v) = h
  by_finding noted h t lost opens =
      let m = makes_room s.num_traces room noted.openings in
      subst (λ (os : List Opening). Each (WaitsIn noted) os) (sym (m.with_next (record { at = length J; trace = t; moment = clock (e ∷ J) })))
      ((λ stands. new_has_time t), Each-left (WaitsIn noted) m.kept (option_to_list (leaving s.num_traces noted.openings)) (subst (λ (os : List Opening). Each (WaitsIn noted) os) m.was h))

  by_refusal : (noted : Notes) → Each (WaitsIn noted) (in_buffer s noted) → (t : TraceId) (r : Bool)
      → Each (WaitsIn noted) (in_buffer s (cond r noted (after_finding s t e.lost (length J) (clock (e ∷ J)) noted (finding s noted t))))
  by_refusal noted h t true = h
  by_refusal noted h t false = by_finding noted h t e.lost (finding s noted t)

  by_ids : (noted : Notes) → Each (WaitsIn noted) (in_buffer s noted) → (ids : Option Ids) → Each (WaitsIn noted) (in_buffer s (after_span s ids e J noted))
  by_ids noted h None = h
  by_ids noted h (Some ids) = by_refusal noted h ids.trace e.refused

  by_item : (noted : Notes) → Each (WaitsIn noted) (in_buffer s noted) → (item : Item) → Each (WaitsIn noted) (in_buffer s (after_item s e J item noted))
  by_item noted h (Span a) = by_ids noted h a.rec.span.ids
  by_item noted h (Tick m) = h
  by_item noted h (End sender) = h

  -- an item decides nothing
  same_open : (item : Item) (o : Opening) → is_open (after_item s e J item (notes s J)) o ≡ true → is_open (notes s J) o ≡ true
  same_open item o h = ap (λ (ds : List Decision). is_none (option_map (λ (d : Decision). d.verdict) (find (λ (d : Decision). d.opening.at == o.at) ds))) (sym (same_decisions s e J item (notes s J))) ∙ h

  -- so what is undecided right after the item had its time to come before it
  pub undecided_after : Each (WaitsIn (notes s J)) (in_buffer s (notes s J)) → (item : Item) → Each (HasTime s J) (undecided s (after_item s e J item (notes s J)))
  undecided_after h item =
      Each-weaker (λ (o : Opening). Split o (in_buffer s (after_item s e J item (notes s J))) × (is_open (after_item s e J item (notes s J)) o ≡ true)) (HasTime s J) (undecided s (after_item s e J item (notes s J)))
      (λ o p. Each-split (WaitsIn (notes s J)) o (in_buffer s (after_item s e J item (notes s J))) p.0 (by_item (notes s J) h item) (same_open item o p.1))
      (undecided_stand s (after_item s e J item (notes s J)))

-- ---- decisions

-- what follows of a condition for each follows for each of it
each_when : {X : Type 0} (A : Type 0) (P : X → Type 0) (xs : List X) → (A → Each P xs) → Each (λ x. A → P x) xs
each_when A P [] f = tt
each_when A P (x ∷ xs) f = ((λ a. (f a).0), each_when A P xs (λ a. (f a).1))

in_turn : (s : Settings) (e : Entry) (J : Journal) (os : List Opening) (given : List (List Bool)) → Each (WasOpened (e ∷ J)) os → Each (Cause s e J) os → Each (λ (o : Opening). 0 < s.decision_wait → HasTime s J o) os
    → Each (WasInTime s (e ∷ J)) (decisions_in_turn s (e ∷ J) os given)
in_turn s e J [] given h k t = tt
in_turn s e J (o ∷ os) [] h k t = tt
in_turn s e J (o ∷ os) (a ∷ given) h k t = (record { later = []; item = e; before = J; split = refl; opened = h.0; cause = k.0; time_before = t.0; spans = refl }, in_turn s e J os given h.1 k.1 t.1)

-- the decisions at an item, each of which is at the first with a cause
now_in_time : (s : Settings) → HasRoom s.num_traces → (e : Entry) (J : Journal) → StoppedInTime s (e ∷ J) → IsAnswered s J → Each (WasInTime s (e ∷ J)) (decisions_now s (e ∷ J))
now_in_time s room e J running given =
    in_turn s e J (due_at s e J e.item (after_item s e J e.item (notes s J))) e.answers (due_opened s e J) (due_caused s e J)
    (each_when (0 < s.decision_wait) (HasTime s J) (due_at s e J e.item (after_item s e J e.item (notes s J))) (λ wait.
    Each-due (HasTime s J) s e J e.item (after_item s e J e.item (notes s J))
    (undecided_after s room wait e J running (open_have_time s room J wait (stopped-before s room e J running) given) e.item)))

in_time_more : (s : Settings) (e : Entry) (J : Journal) (d : Decision) → WasInTime s J d → WasInTime s (e ∷ J) d
in_time_more s e J d h = record { later = e ∷ h.later; item = h.item; before = h.before; split = ap (λ (z : Journal). e ∷ z) h.split; opened = h.opened; cause = h.cause; time_before = h.time_before; spans = h.spans }

-- all decisions before an item, by the notes after it
before_in_time : (s : Settings) (e : Entry) (J : Journal) → Each (WasInTime s J) (notes s J).decisions → Each (WasInTime s (e ∷ J)) (after_item s e J e.item (notes s J)).decisions
before_in_time s e J h =
    subst (λ (ds : List Decision). Each (WasInTime s (e ∷ J)) ds) (sym (same_decisions s e J e.item (notes s J)))
    (Each-weaker (WasInTime s J) (WasInTime s (e ∷ J)) (notes s J).decisions (in_time_more s e J) h)

all_in_time : (s : Settings) → HasRoom s.num_traces → (J : Journal) → StoppedInTime s J → IsAnswered s J → Each (WasInTime s J) (notes s J).decisions
unfolding notes
all_in_time s room [] running given = tt
all_in_time s room (e ∷ J) running given =
    Each-append (WasInTime s (e ∷ J)) (reverse (decisions_now s (e ∷ J))) (after_item s e J e.item (notes s J)).decisions
    (Each-reverse (WasInTime s (e ∷ J)) (decisions_now s (e ∷ J)) (now_in_time s room e J running given.1)) (before_in_time s e J (all_in_time s room J (stopped-before s room e J running) given.1))

-- and so it is where only the first decisions at the last item were answered
pub noted_in_time : (s : Settings) → HasRoom s.num_traces → (J : Journal) (dealt : ℕ) → StoppedInTime s J → IsAnsweredUpTo s J dealt → Each (WasInTime s J) (notes s J).decisions
unfolding notes
noted_in_time s room [] dealt running given = tt
noted_in_time s room (e ∷ J) dealt running given =
    Each-append (WasInTime s (e ∷ J)) (reverse (decisions_now s (e ∷ J))) (after_item s e J e.item (notes s J)).decisions
    (Each-reverse (WasInTime s (e ∷ J)) (decisions_now s (e ∷ J)) (now_in_time s room e J running given.1)) (before_in_time s e J (all_in_time s room J (stopped-before s room e J running) given.1))
