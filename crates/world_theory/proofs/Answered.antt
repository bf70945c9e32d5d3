-- A decision's answers, put into a journal: what was decided, handed over and counted so far stays, and one more
-- decision is there to be dealt with. For the laws of the headline, `headline` and each of its parts.
use Rattle.std.proofs.Common.{◌≡◌, ℕ, zero, suc, Bool, true, false, cond, ◌==◌, List, [], ◌∷◌, ◌++◌, length, reverse, take, find, slice_get, Option, Some, None, is_none, option_map, ◌⊎◌, inl, inr, refl, ap, sym, subst, ◌∙◌, ne_eqb, eqb-true, eq-eqb}
use Rattle.std.specs.List.{list_any}
use Rattle.std.proofs.lemmas.List.{reverse-append}
use Rattle.std.proofs.lemmas.Bool.{and_parts}
use Rattle.policy_eval.specs.Given.{are_answered}
use Rattle.journal_theory.specs.Journal.{Entry, Settings, Journal, Opening, Decision, Notes, Finding, joins, meets, opens, finding, notes, notes_dealt, policies_for, decision, decisions_in_turn, decisions_now, decided_as, is_in_buffer, in_buffer, due_now, after_decisions, after_item, spans_since, answered, are_each_answered, IsAnsweredUpTo}
use Rattle.journal_theory.specs.Fate.{Fate, is_released, is_counted, fate, fate_of_finding, fate_of_member, fate_of_member_decided, effect_dealt, effect, effect_of_taking, effect_of_decisions, ◌then◌}
use Rattle.otlp_types.specs.declared.arrival.Arrival.{Arrival}
use Rattle.otlp_types.specs.declared.arrival.Item.TheVariants.{Span}
use Rattle.otlp_types.specs.declared.span.Ids.{Ids}
use Rattle.span_ids.specs.declared.outcome.Verdict.{Verdict}
use Rattle.span_ids.specs.declared.outcome.Reason.{Reason}
use Rattle.journal_theory.proofs.Notes.{HasRoom, is_open}
use Rattle.journal_theory.proofs.ListFacts.{Split}
use Rattle.journal_theory.proofs.Find.{any_split}
use Rattle.journal_theory.proofs.Answering.{other, due-same, turn-same, item-same}
use Rattle.world_theory.proofs.Content.{content}
use Rattle.world_theory.proofs.Dealing.{open_dealt}

-- ---- decisions in turn

-- the next decision comes last
turn-more : (s : Settings) (past : Journal) (k : ℕ) (os : List Opening) (given : List (List Bool)) (answers : List Bool) (o : Opening) → slice_get os k ≡ Some o →
    are_each_answered s past (take k os) given ≡ true → decisions_in_turn s past os (given ++ answers ∷ []) ≡ decisions_in_turn s past os given ++ decision s past o answers ∷ []
turn-more s past k [] given answers o e h = absurd (cc e)
turn-more s past zero (p ∷ os) [] answers o e h = let same : p ≡ o = cc in all_but_first os ∙ ap (λ (q : Opening). decision s past q answers ∷ []) same
  where
    all_but_first : (os : List Opening) → decisions_in_turn s past (p ∷ os) (answers ∷ []) ≡ decision s past p answers ∷ []
    all_but_first [] = refl
    all_but_first (x ∷ os) = refl
turn-more s past zero (p ∷ os) (g ∷ given) answers o e h = cc
turn-more s past (suc k) (p ∷ os) [] answers o e h = cc
turn-more s past (suc k) (p ∷ os) (g ∷ given) answers o e h =
    ap (λ (ds : List Decision). decision s past p g ∷ ds) (turn-more s past k os given answers o e (and_parts (are_answered (policies_for s (spans_since past p)) g (spans_since past p)) (are_each_answered s past (take k os) given) h).1)

-- it is found at its place
turn-there : (s : Settings) (past : Journal) (k : ℕ) (os : List Opening) (given : List (List Bool)) (answers : List Bool) (o : Opening) → slice_get os k ≡ Some o →
    are_each_answered s past (take k os) given ≡ true → slice_get (decisions_in_turn s past os (given ++ answers ∷ [])) k ≡ Some (decision s past o answers)
turn-there s past k [] given answers o e h = absurd (cc e)
turn-there s past zero (p ∷ os) [] answers o e h = let same : p ≡ o = cc in ap (λ (q : Opening). Some (decision s past q answers)) same
turn-there s past zero (p ∷ os) (g ∷ given) answers o e h = cc
turn-there s past (suc k) (p ∷ os) [] answers o e h = cc
turn-there s past (suc k) (p ∷ os) (g ∷ given) answers o e h = turn-there s past k os given answers o e (and_parts (are_answered (policies_for s (spans_since past p)) g (spans_since past p)) (are_each_answered s past (take k os) given) h).1

-- those before it are as they were
turn-front : (s : Settings) (past : Journal) (k : ℕ) (os : List Opening) (given : List (List Bool)) (answers : List Bool) →
    are_each_answered s past (take k os) given ≡ true → take k (decisions_in_turn s past os (given ++ answers ∷ [])) ≡ take k (decisions_in_turn s past os given)
turn-front s past zero os given answers h = refl
turn-front s past (suc k) [] given answers h = refl
turn-front s past (suc k) (p ∷ os) [] answers h = cc
turn-front s past (suc k) (p ∷ os) (g ∷ given) answers h =
    ap (λ (ds : List Decision). decision s past p g ∷ ds) (turn-front s past k os given answers (and_parts (are_answered (policies_for s (spans_since past p)) g (spans_since past p)) (are_each_answered s past (take k os) given) h).1)

-- and they are all that were given answers
turn-all : (s : Settings) (past : Journal) (k : ℕ) (os : List Opening) (given : List (List Bool)) → are_each_answered s past (take k os) given ≡ true → take k (decisions_in_turn s past os given) ≡ decisions_in_turn s past os given
turn-all s past zero [] given h = refl
turn-all s past zero (p ∷ os) [] h = refl
turn-all s past zero (p ∷ os) (g ∷ given) h = cc
turn-all s past (suc k) [] given h = refl
turn-all s past (suc k) (p ∷ os) [] h = refl
turn-all s past (suc k) (p ∷ os) (g ∷ given) h = ap (λ (ds : List Decision). decision s past p g ∷ ds) (turn-all s past k os given (and_parts (are_answered (policies_for s (spans_since past p)) g (spans_since past p)) (are_each_answered s past (take k os) given) h).1)

-- ---- a journal

module _ (s : Settings) (room : HasRoom s.num_traces) (e : Entry) (before : Journal) (k : ℕ) (answers : List Bool) (o : Opening) (due : slice_get (due_now s (e ∷ before)) k ≡ Some o) (given : IsAnsweredUpTo s (e ∷ before) k) where
  abbrev J : Journal
  J = e ∷ before

  abbrev more : List (List Bool)
  more = e.answers ++ answers ∷ []

  abbrev x : Entry
  x = other s e before more

  abbrev later : Journal
  later = x ∷ before

  abbrev d : Decision
  d = decision s J o answers

  now_is : decisions_now s later ≡ decisions_in_turn s J (due_now s J) more
  now_is = ap (λ (os : List Opening). decisions_in_turn s later os more) (due-same s e before more) ∙ turn-same s e before more (due_now s J) more

  now_more : decisions_now s later ≡ decisions_now s J ++ d ∷ []
  now_more = now_is ∙ turn-more s J k (due_now s J) e.answers answers o due given.0

  there : slice_get (decisions_now s later) k ≡ Some d
  there = ap (λ (ds : List Decision). slice_get ds k) now_is ∙ turn-there s J k (due_now s J) e.answers answers o due given.0

  front_same : take k (decisions_now s later) ≡ take k (decisions_now s J)
  front_same = ap (take k) now_is ∙ turn-front s J k (due_now s J) e.answers answers given.0

  notes_more : notes s later ≡ after_decisions (d ∷ []) (notes s J)
  unfolding notes
  notes_more =
      let m = after_item s e before e.item (notes s before) in
      let close = λ (ys : List Decision). (let n : Notes = record { openings = m.openings; decisions = ys ++ m.decisions; touches = m.touches } in n) in
      ap (after_decisions (decisions_now s later)) (item-same s e before more e.item (notes s before))
      ∙ ap (λ (ds : List Decision). close (reverse ds)) now_more
      ∙ ap close (reverse-append (decisions_now s J) (d ∷ []))

  dealt_same : notes_dealt s later k ≡ notes_dealt s J k
  dealt_same = ap (λ (n : Notes). after_decisions (take k (decisions_now s later)) n) (item-same s e before more e.item (notes s before)) ∙ ap (λ (ds : List Decision). after_decisions ds (after_item s e before e.item (notes s before))) front_same

  dealt_notes : notes_dealt s J k ≡ notes s J
  unfolding notes
  dealt_notes = ap (λ (ds : List Decision). after_decisions ds (after_item s e before e.item (notes s before))) (turn-all s J k (due_now s J) e.answers given.0)

  effect_same : effect_dealt s later k ≡ effect_dealt s J k
  effect_same = ap (λ (ds : List Decision). (effect s before then effect_of_taking s e before) then effect_of_decisions ds) front_same

  -- the episode is open until then, and in the buffer
  stands_open : (is_open (notes s J) o ≡ true) × Split o (in_buffer s (notes s J))
  stands_open =
      let q = dealt_same ∙ dealt_notes in
      let P = λ (n : Notes). (is_open n o ≡ true) × Split o (in_buffer s n) in
      subst P q (open_dealt s room later k d there)

  -- another episode's decision stands
  verdict_stays : (at : ℕ) → (o.at == at) ≡ false → decided_as (notes s later) at ≡ decided_as (notes s J) at
  verdict_stays at h = ap (λ (n : Notes). decided_as n at) notes_more ∙ ap (λ b. option_map (λ (d : Decision). d.verdict) (cond b (Some d) (find (λ (d : Decision). d.opening.at == at) (notes s J).decisions))) h

  decided_other : (at : ℕ) (v : Verdict) → decided_as (notes s J) at ≡ Some v → (o.at == at) ≡ false
  decided_other at v h = ne_eqb o.at at (λ q. let r : is_none (Some v) ≡ true = ap is_none (sym h ∙ ap (decided_as (notes s J)) (sym q)) ∙ stands_open.0 in cc r)

  buffer_same : (at : ℕ) → is_in_buffer s (notes s later) at ≡ is_in_buffer s (notes s J) at
  buffer_same at = ap (λ (n : Notes). is_in_buffer s n at) notes_more

  out_other : (at : ℕ) → is_in_buffer s (notes s J) at ≡ false → (o.at == at) ≡ false
  out_other at h = go (o.at == at) refl
    where
      inside : is_in_buffer s (notes s J) o.at ≡ true
      inside = let k = stands_open.1 in ap (list_any (λ (y : Opening). y.at == o.at)) k.is ∙ any_split (λ (y : Opening). y.at == o.at) k.front k.back o (eq-eqb o.at o.at refl)

      go : (b : Bool) → (o.at == at) ≡ b → b ≡ false
      go false q = refl
      go true q = let z : o.at ≡ at = eqb-true o.at at q in absurd (cc (sym inside ∙ ap (is_in_buffer s (notes s J)) z ∙ h))

  -- a settled fate stays
  member_settled : (at : ℕ) (became : Fate) → (became ≡ is_released) ⊎ ((r : Reason) × (became ≡ is_counted r)) → fate_of_member s (notes s J) at ≡ became → fate_of_member s (notes s later) at ≡ became
  member_settled at became which h = go (decided_as (notes s J) at) refl (is_in_buffer s (notes s J) at) refl h
    where
      go : (v : Option Verdict) → decided_as (notes s J) at ≡ v → (b : Bool) → is_in_buffer s (notes s J) at ≡ b → fate_of_member_decided b v ≡ became → fate_of_member s (notes s later) at ≡ became
      go (Some v) p b q f = ap (fate_of_member_decided (is_in_buffer s (notes s later) at)) (verdict_stays at (decided_other at v p) ∙ p) ∙ ap (λ b. fate_of_member_decided b (Some v)) (buffer_same at ∙ q) ∙ f
      go None p false q f = ap (fate_of_member_decided (is_in_buffer s (notes s later) at)) (verdict_stays at (out_other at q) ∙ p) ∙ ap (λ b. fate_of_member_decided b None) (buffer_same at ∙ q) ∙ f
      go None p true q f = not_waits which
        where
          not_waits : (became ≡ is_released) ⊎ ((r : Reason) × (became ≡ is_counted r)) → fate_of_member s (notes s later) at ≡ became
          not_waits (inl w) = absurd (cc (f, w))
          not_waits (inr w) = absurd (cc (f, w.1))

  finding_settled : (own : ℕ) (f : Finding) (became : Fate) → (became ≡ is_released) ⊎ ((r : Reason) × (became ≡ is_counted r)) → fate_of_finding s (notes s J) own f ≡ became → fate_of_finding s (notes s later) own f ≡ became
  finding_settled own (meets p v) became which h = h
  finding_settled own (joins p) became which h = member_settled p.at became which h
  finding_settled own opens became which h = member_settled own became which h

  pub fate_settled : (past : Journal) (refused : Bool) (ids : Ids) (became : Fate) → (became ≡ is_released) ⊎ ((r : Reason) × (became ≡ is_counted r)) → fate s J past refused ids ≡ became → fate s later past refused ids ≡ became
  fate_settled past true ids became which h = h
  fate_settled past false ids became which h = finding_settled (length past) (finding s (notes s past) ids.trace) became which h

-- an entry's place in the journal that was given answers
pub split_answered : (J : Journal) (answers : List Bool) (later before : Journal) (a : Arrival) (refused lost : Bool) (given : List (List Bool)) → J ≡ later ++ record { item = Span a; refused = refused; lost = lost; answers = given } ∷ before →
    (later' : Journal) × (given' : List (List Bool)) × (answered J answers ≡ later' ++ record { item = Span a; refused = refused; lost = lost; answers = given' } ∷ before)
split_answered J answers [] before a refused lost given e = ([], given ++ answers ∷ [], ap (λ (j : Journal). answered j answers) e)
split_answered J answers (y ∷ later) before a refused lost given e = (record y { answers = y.answers ++ answers ∷ [] } ∷ later, given, ap (λ (j : Journal). answered j answers) e)

no_due : (s : Settings) (k : ℕ) (o : Opening) → slice_get (due_now s []) k ≡ Some o → ⊥
no_due s zero o e = cc e
no_due s (suc k) o e = cc e

-- for any journal
pub next_there : (s : Settings) → HasRoom s.num_traces → (J : Journal) (k : ℕ) (answers : List Bool) (o : Opening) → slice_get (due_now s J) k ≡ Some o → IsAnsweredUpTo s J k → slice_get (decisions_now s (answered J answers)) k ≡ Some (decision s J o answers)
next_there s room [] k answers o e g = absurd (no_due s k o e)
next_there s room (x ∷ before) k answers o e g = there s room x before k answers o e g

pub content_same : (s : Settings) → HasRoom s.num_traces → (J : Journal) (k : ℕ) (answers : List Bool) (o : Opening) → slice_get (due_now s J) k ≡ Some o → IsAnsweredUpTo s J k →
    content s (answered J answers) (notes_dealt s (answered J answers) k) ≡ content s J (notes_dealt s J k)
content_same s room [] k answers o e g = absurd (no_due s k o e)
content_same s room (x ∷ before) k answers o e g = ap (content s (x ∷ before)) (dealt_same s room x before k answers o e g)

pub effect_dealt_same : (s : Settings) → HasRoom s.num_traces → (J : Journal) (k : ℕ) (answers : List Bool) (o : Opening) → slice_get (due_now s J) k ≡ Some o → IsAnsweredUpTo s J k → effect_dealt s (answered J answers) k ≡ effect_dealt s J k
effect_dealt_same s room [] k answers o e g = absurd (no_due s k o e)
effect_dealt_same s room (x ∷ before) k answers o e g = effect_same s room x before k answers o e g

pub fate_answered : (s : Settings) → HasRoom s.num_traces → (J : Journal) (k : ℕ) (answers : List Bool) (o : Opening) → slice_get (due_now s J) k ≡ Some o → IsAnsweredUpTo s J k → (past : Journal) (refused : Bool) (ids : Ids) (became : Fate) →
    (became ≡ is_released) ⊎ ((r : Reason) × (became ≡ is_counted r)) → fate s J past refused ids ≡ became → fate s (answered J answers) past refused ids ≡ became
fate_answered s room [] k answers o e g past refused ids became which h = absurd (no_due s k o e)
fate_answered s room (x ∷ before) k answers o e g past refused ids became which h = fate_settled s room x before k answers o e g past refused ids became which h
