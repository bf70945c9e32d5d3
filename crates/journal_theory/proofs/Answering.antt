-- One more decision's answers in a journal's newest entry: what was known of the journal stays, and that decision is
-- given by them. Serves the clause `decides` of `Shard::decide`.
use Rattle.std.proofs.Common.{◌≡◌, ℕ, zero, suc, Bool, true, false, not, ◌&&◌, cond, List, [], ◌∷◌, ◌++◌, take, drop, Option, Some, None, refl, sym, ap, ◌∙◌}
use Rattle.std.proofs.lemmas.Bool.{and_parts}
use Rattle.journal_theory.specs.Journal.{Entry, Settings, Journal, Opening, Decision, Notes, notes, notes_dealt, due_at, due_now, have_ended, has_ended, policies_for, decision, decisions_in_turn, decisions_now, after_item, after_span, after_decisions, undecided, oversized, spans_since, answered, are_each_answered, IsAnswered, IsAnsweredUpTo}
use Rattle.journal_theory.specs.Standing.{standing, mark, mark_at, ends}
use Rattle.policy_eval.specs.Given.{are_answered}
use Rattle.otlp_types.specs.declared.span.Ids.{Ids}
use Rattle.otlp_types.specs.declared.arrival.Item.{Item}
use Rattle.otlp_types.specs.declared.arrival.Item.TheVariants.{Span, Tick, End}
use Rattle.journal_theory.proofs.StandingParts.{standing_by}

-- ---- decisions in turn

pub no_more : (k : ℕ) (o : Opening) (rest : List Opening) → drop k [] ≡ o ∷ rest → ⊥
no_more zero o rest e = cc
no_more (suc k) o rest e = cc

-- the decision after so many that are answered is given by the next answers
pub turn-next : (s : Settings) (past : Journal) (k : ℕ) (os : List Opening) (given : List (List Bool)) (answers : List Bool) (o : Opening) (rest : List Opening) → drop k os ≡ o ∷ rest →
    are_each_answered s past (take k os) given ≡ true →
    take (suc k) (decisions_in_turn s past os (given ++ answers ∷ [])) ≡ take k (decisions_in_turn s past os given) ++ decision s past o answers ∷ []
turn-next s past k [] given answers o rest e h = absurd (no_more k o rest e)
turn-next s past zero (p ∷ os) [] answers o rest e h = let same : p ≡ o = cc in ap (λ (q : Opening). decision s past q answers ∷ []) same
turn-next s past zero (p ∷ os) (g ∷ given) answers o rest e h = cc
turn-next s past (suc k) (p ∷ os) [] answers o rest e h = cc
turn-next s past (suc k) (p ∷ os) (g ∷ given) answers o rest e h =
    ap (λ (ds : List Decision). decision s past p g ∷ ds) (turn-next s past k os given answers o rest e (and_parts (are_answered (policies_for s (spans_since past p)) g (spans_since past p)) (are_each_answered s past (take k os) given) h).1)

-- and then one more is answered
each-next : (s : Settings) (past : Journal) (k : ℕ) (os : List Opening) (given : List (List Bool)) (answers : List Bool) (o : Opening) (rest : List Opening) → drop k os ≡ o ∷ rest →
    are_each_answered s past (take k os) given ≡ true → are_answered (policies_for s (spans_since past o)) answers (spans_since past o) ≡ true →
    are_each_answered s past (take (suc k) os) (given ++ answers ∷ []) ≡ true
each-next s past k [] given answers o rest e h a = absurd (no_more k o rest e)
each-next s past zero (p ∷ os) [] answers o rest e h a =
    let same : p ≡ o = cc in
    let here : are_answered (policies_for s (spans_since past p)) answers (spans_since past p) ≡ true = ap (λ (q : Opening). are_answered (policies_for s (spans_since past q)) answers (spans_since past q)) same ∙ a in
    rw here refl
each-next s past zero (p ∷ os) (g ∷ given) answers o rest e h a = cc
each-next s past (suc k) (p ∷ os) [] answers o rest e h a = cc
each-next s past (suc k) (p ∷ os) (g ∷ given) answers o rest e h a = go (are_answered (policies_for s (spans_since past p)) g (spans_since past p)) h (each-next s past k os given answers o rest e)
  where
    go : (b : Bool) → (b && are_each_answered s past (take k os) given) ≡ true
        → (are_each_answered s past (take k os) given ≡ true → are_answered (policies_for s (spans_since past o)) answers (spans_since past o) ≡ true → are_each_answered s past (take (suc k) os) (given ++ answers ∷ []) ≡ true)
        → (b && are_each_answered s past (take (suc k) os) (given ++ answers ∷ [])) ≡ true
    go true h f = f h a
    go false h f = cc

-- ---- an entry with other answers

module _ (s : Settings) (e : Entry) (before : Journal) (more : List (List Bool)) where
  abbrev pub other : Entry
  other = record e { answers = more }

  pub ended-same : (n : ℕ) → have_ended (other ∷ before) n ≡ have_ended (e ∷ before) n
  ended-same zero = refl
  ended-same (suc n) = ap (λ b. has_ended (e ∷ before) n && b) (ended-same n)

  pub ends-same : (n : ℕ) → ends (other ∷ before) n ≡ ends (e ∷ before) n
  ends-same zero = refl
  ends-same (suc n) = ap (λ xs. xs ++ has_ended (e ∷ before) n ∷ []) (ends-same n)

  pub mark-same : (item : Item) → mark_at other before (mark before) item ≡ mark_at e before (mark before) item
  mark-same (Span a) = refl
  mark-same (Tick m) = refl
  mark-same (End sender) = refl

  pub due-item-same : (item : Item) (noted : Notes) → due_at s other before item noted ≡ due_at s e before item noted
  due-item-same (Span a) noted = refl
  due-item-same (Tick m) noted = refl
  due-item-same (End sender) noted = ap (λ b. cond (b && not (have_ended before s.senders)) (undecided s noted) (oversized s (e ∷ before) noted)) (ended-same s.senders)

  ids-same : (ids : Option Ids) (noted : Notes) → after_span s ids other before noted ≡ after_span s ids e before noted
  ids-same None noted = refl
  ids-same (Some ids) noted = refl

  pub item-same : (item : Item) (noted : Notes) → after_item s other before item noted ≡ after_item s e before item noted
  item-same (Span a) noted = ids-same a.rec.span.ids noted
  item-same (Tick m) noted = refl
  item-same (End sender) noted = refl

  pub turn-same : (os : List Opening) (given : List (List Bool)) → decisions_in_turn s (other ∷ before) os given ≡ decisions_in_turn s (e ∷ before) os given
  turn-same [] given = refl
  turn-same (o ∷ os) [] = refl
  turn-same (o ∷ os) (g ∷ given) = ap (λ (ds : List Decision). decision s (e ∷ before) o g ∷ ds) (turn-same os given)

  pub each-same : (os : List Opening) (given : List (List Bool)) → are_each_answered s (other ∷ before) os given ≡ are_each_answered s (e ∷ before) os given
  each-same [] [] = refl
  each-same [] (g ∷ given) = refl
  each-same (o ∷ os) [] = refl
  each-same (o ∷ os) (g ∷ given) = ap (λ b. are_answered (policies_for s (spans_since (e ∷ before) o)) g (spans_since (e ∷ before) o) && b) (each-same os given)

  pub due-same : due_now s (other ∷ before) ≡ due_now s (e ∷ before)
  due-same = due-item-same e.item (after_item s other before e.item (notes s before)) ∙ ap (due_at s e before e.item) (item-same e.item (notes s before))

  pub standing-same : (noted : Notes) → standing_by s (other ∷ before) noted ≡ standing_by s (e ∷ before) noted
  standing-same noted = rw (ends-same s.senders, mark-same e.item) refl

-- one more decision is dealt with, by its answers
pub decisions-answered : (s : Settings) (e : Entry) (before : Journal) (k : ℕ) (answers : List Bool) (o : Opening) (rest : List Opening) → let past : Journal = e ∷ before in
    drop k (due_now s past) ≡ o ∷ rest → IsAnsweredUpTo s past k → take (suc k) (decisions_now s (answered past answers)) ≡ take k (decisions_now s past) ++ decision s past o answers ∷ []
decisions-answered s e before k answers o rest d h =
    let more = e.answers ++ answers ∷ [] in
    let os = due_now s (e ∷ before) in
    ap (λ (ps : List Opening). take (suc k) (decisions_in_turn s (other s e before more ∷ before) ps more)) (due-same s e before more)
    ∙ ap (take (suc k)) (turn-same s e before more os more)
    ∙ turn-next s (e ∷ before) k os e.answers answers o rest d h.0

pub answered-next : (s : Settings) (past : Journal) (k : ℕ) (answers : List Bool) (o : Opening) (rest : List Opening) → drop k (due_now s past) ≡ o ∷ rest → IsAnsweredUpTo s past k →
    are_answered (policies_for s (spans_since past o)) answers (spans_since past o) ≡ true → IsAnsweredUpTo s (answered past answers) (suc k)
answered-next s [] k answers o rest d h a = tt
answered-next s (e ∷ before) k answers o rest d h a =
    let more = e.answers ++ answers ∷ [] in
    let os = due_now s (e ∷ before) in (
      ap (λ (ps : List Opening). are_each_answered s (other s e before more ∷ before) (take (suc k) ps) more) (due-same s e before more)
          ∙ each-same s e before more (take (suc k) os) more
          ∙ each-next s (e ∷ before) k os e.answers answers o rest d h.0 a,
      h.1,
    )

pub standing-answered : (s : Settings) (e : Entry) (before : Journal) (k : ℕ) (answers : List Bool) (o : Opening) (rest : List Opening) → let past : Journal = e ∷ before in
    drop k (due_now s past) ≡ o ∷ rest → IsAnsweredUpTo s past k →
    standing s (answered past answers) (suc k) ≡ standing_by s past (after_decisions (take k (decisions_now s past) ++ decision s past o answers ∷ []) (after_item s e before e.item (notes s before)))
standing-answered s e before k answers o rest d h =
    let more = e.answers ++ answers ∷ [] in
    let past : Journal = e ∷ before in
    let noted = notes s before in
    let x = other s e before more in
    standing-same s e before more (notes_dealt s (x ∷ before) (suc k))
    ∙ ap (λ (ds : List Decision). standing_by s past (after_decisions ds (after_item s x before e.item noted))) (decisions-answered s e before k answers o rest d h)
    ∙ ap (λ (m : Notes). standing_by s past (after_decisions (take k (decisions_now s past) ++ decision s past o answers ∷ []) m)) (item-same s e before more e.item noted)

-- ---- once all is dealt with

pub taken-all : {X : Type 0} (k : ℕ) (xs : List X) → drop k xs ≡ [] → take k xs ≡ xs
taken-all zero [] e = refl
taken-all zero (x ∷ xs) e = cc
taken-all (suc k) [] e = refl
taken-all {X} (suc k) (x ∷ xs) e = ap (λ (ys : List X). x ∷ ys) (taken-all k xs e)

-- a journal is answered once all decisions at its last item are
pub all-answered : (s : Settings) (past : Journal) (k : ℕ) → drop k (due_now s past) ≡ [] → IsAnsweredUpTo s past k → IsAnswered s past
all-answered s [] k d h = tt
all-answered s (e ∷ before) k d h = (ap (λ (os : List Opening). are_each_answered s (e ∷ before) os e.answers) (sym (taken-all k (due_now s (e ∷ before)) d)) ∙ h.0, h.1)
