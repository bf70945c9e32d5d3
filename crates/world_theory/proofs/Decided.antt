-- A decision stands: the episode that it decided keeps its verdict.
-- For the laws of the headline, `headline` and each of its parts.
use Rattle.std.proofs.Common.{◌≡◌, ℕ, zero, suc, Bool, true, false, cond, ◌==◌, List, [], ◌∷◌, ◌++◌, length, reverse, find, slice_get, Option, Some, None, is_none, option_map, refl, ap, sym, subst, ◌∙◌, arith, append_assoc, eq-eqb, ne_eqb}
use Rattle.std.proofs.lemmas.List.{reverse-append}
use Rattle.journal_theory.specs.Journal.{Settings, Journal, Opening, Decision, Notes, in_buffer, decided_as, undecided, Finding, joins, meets, opens, finding, due_at, decision, decisions_in_turn, after_finding, after_span, after_item, decisions_at, notes, decisions_now, Entry}
use Rattle.otlp_types.specs.declared.span.Ids.{Ids}
use Rattle.span_ids.specs.declared.ids.TraceId.{TraceId}
use Rattle.otlp_types.specs.declared.arrival.Item.{Item}
use Rattle.otlp_types.specs.declared.arrival.Item.TheVariants.{Span, Tick, End}
use Rattle.span_ids.specs.declared.outcome.Verdict.{Verdict}
use Rattle.journal_theory.proofs.Notes.{HasRoom, is_open}
use Rattle.journal_theory.proofs.ListFacts.{Each, Each-weaker, Each-reverse, Pairs, Split}
use Rattle.journal_theory.proofs.Find.{find_past}
use Rattle.journal_theory.proofs.Sound.{sound_item, sound_notes}
use Rattle.world_theory.proofs.Dealing.{Each-due, Pairs-due, IsEarlier, undecided_ascend, undecided_stand}

-- an item decides nothing by itself
pub same_decisions : (s : Settings) (e : Entry) (J : Journal) (item : Item) (noted : Notes) → (after_item s e J item noted).decisions ≡ noted.decisions
same_decisions s e J (Tick m) noted = refl
same_decisions s e J (End i) noted = refl
same_decisions s e J (Span a) noted = go a.rec.span.ids
  where
    by_finding : (t : TraceId) (f : Finding) (now : ℕ) → (after_finding s t e.lost (length J) now noted f).decisions ≡ noted.decisions
    by_finding t (joins o) now = refl
    by_finding t (meets o v) now = refl
    by_finding t opens now = refl

    marked : (ids : Ids) (b : Bool) (now : ℕ) → (cond b noted (after_finding s ids.trace e.lost (length J) now noted (finding s noted ids.trace))).decisions ≡ noted.decisions
    marked ids true now = refl
    marked ids false now = by_finding ids.trace (finding s noted ids.trace) now

    go : (ids : Option Ids) → (after_span s ids e J noted).decisions ≡ noted.decisions
    go None = refl
    go (Some ids) = marked ids e.refused _

pub Each-in_turn : (P : Opening → Type 0) (s : Settings) (J : Journal) (os : List Opening) (answers : List (List Bool)) → Each P os → Each (λ (d : Decision). P d.opening) (decisions_in_turn s J os answers)
Each-in_turn P s J [] answers h = tt
Each-in_turn P s J (o ∷ os) [] h = tt
Each-in_turn P s J (o ∷ os) (a ∷ answers) h = (h.0, Each-in_turn P s J os answers h.1)

pub decided_stays : (s : Settings) → HasRoom s.num_traces → (J : Journal) (e : Entry) (at : ℕ) (v : Verdict) → decided_as (notes s J) at ≡ Some v → decided_as (notes s (e ∷ J)) at ≡ Some v
unfolding notes
decided_stays s room J e at v h = ap (λ (r : Option Decision). option_map (λ (d : Decision). d.verdict) r)
    (find_past (λ (d : Decision). d.opening.at == at) (reverse ds) (after_item s e J e.item (notes s J)).decisions (Each-reverse (λ (d : Decision). (d.opening.at == at) ≡ false) ds others)
    ∙ ap (find (λ (d : Decision). d.opening.at == at)) (same_decisions s e J e.item (notes s J))) ∙ h
  where
    noted : Notes
    noted = after_item s e J e.item (notes s J)

    ds : List Decision
    ds = decisions_at s e J noted

    stands : decided_as noted at ≡ Some v
    stands = ap (λ (ds : List Decision). option_map (λ (d : Decision). d.verdict) (find (λ (d : Decision). d.opening.at == at) ds)) (same_decisions s e J e.item (notes s J)) ∙ h

    apart : (x : ℕ) → is_none (decided_as noted x) ≡ true → (x == at) ≡ false
    apart x p = ne_eqb x at (λ q. let r : is_none (Some v) ≡ true = ap is_none (sym stands ∙ ap (decided_as noted) (sym q)) ∙ p in cc r)

    others : Each (λ (d : Decision). (d.opening.at == at) ≡ false) ds
    others = Each-in_turn (λ (o : Opening). (o.at == at) ≡ false) s (e ∷ J) (due_at s e J e.item noted) e.answers
        (Each-due (λ (o : Opening). (o.at == at) ≡ false) s e J e.item noted (Each-weaker (λ (o : Opening). Split o (in_buffer s noted) × (is_open noted o ≡ true)) (λ (o : Opening). (o.at == at) ≡ false) (undecided s noted) (λ o p. apart o.at p.1) (undecided_stand s noted)))

-- the decision at a place among those made in turn is found by its position
found_in_turn : (s : Settings) (J : Journal) (due : List Opening) (answers : List (List Bool)) (old : List Decision) (dealt : ℕ) (d : Decision) → Pairs IsEarlier due → slice_get (decisions_in_turn s J due answers) dealt ≡ Some d
    → find (λ (x : Decision). x.opening.at == d.opening.at) (reverse (decisions_in_turn s J due answers) ++ old) ≡ Some d
found_in_turn s J [] answers old dealt d p e = absurd (cc e)
found_in_turn s J (o ∷ due) [] old dealt d p e = absurd (cc e)
found_in_turn s J (o ∷ due) (a ∷ answers) old zero d p e =
    let first : Decision = decision s J o a in
    let rest = decisions_in_turn s J due answers in
    let k : first ≡ d = cc e in
    subst (λ (d : Decision). find (λ (x : Decision). x.opening.at == d.opening.at) (reverse (first ∷ rest) ++ old) ≡ Some d) k
    (ap (λ (z : List Decision). find (λ (x : Decision). x.opening.at == o.at) (z ++ old)) (reverse-append (first ∷ []) rest)
    ∙ ap (find (λ (x : Decision). x.opening.at == o.at)) (append_assoc (reverse rest) (first ∷ []) old)
    ∙ find_past (λ (x : Decision). x.opening.at == o.at) (reverse rest) (first ∷ old)
    (Each-reverse (λ (x : Decision). (x.opening.at == o.at) ≡ false) rest
    (Each-in_turn (λ (y : Opening). (y.at == o.at) ≡ false) s J due answers (Each-weaker (IsEarlier o) (λ (y : Opening). (y.at == o.at) ≡ false) due (λ y l. ne_eqb y.at o.at (λ q. omega arith)) p.0)))
    ∙ ap (λ (b : Bool). cond b (Some first) (find (λ (x : Decision). x.opening.at == o.at) old)) (eq-eqb o.at o.at refl))
found_in_turn s J (o ∷ due) (a ∷ answers) old (suc dealt) d p e =
    let first : Decision = decision s J o a in
    ap (λ (z : List Decision). find (λ (x : Decision). x.opening.at == d.opening.at) (z ++ old)) (reverse-append (first ∷ []) (decisions_in_turn s J due answers))
    ∙ ap (find (λ (x : Decision). x.opening.at == d.opening.at)) (append_assoc (reverse (decisions_in_turn s J due answers)) (first ∷ []) old)
    ∙ found_in_turn s J due answers (first ∷ old) dealt d p.1 e

-- each decision made at the last item is noted
pub noted_decision : (s : Settings) → HasRoom s.num_traces → (J : Journal) (dealt : ℕ) (d : Decision) → slice_get (decisions_now s J) dealt ≡ Some d → decided_as (notes s J) d.opening.at ≡ Some d.verdict
unfolding notes
noted_decision s room [] dealt d is = absurd (cc is)
noted_decision s room (e ∷ J) dealt d is =
    let noted = after_item s e J e.item (notes s J) in
    let h = sound_item s room J e.item e (notes s J) (sound_notes s room J) in
    ap (λ (r : Option Decision). option_map (λ (d : Decision). d.verdict) r)
    (found_in_turn s (e ∷ J) (due_at s e J e.item noted) e.answers noted.decisions dealt d (Pairs-due IsEarlier s e J e.item noted (undecided_ascend s (e ∷ J) noted h)) is)
