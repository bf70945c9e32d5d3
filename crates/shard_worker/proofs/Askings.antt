-- The limiter is asked at one more decision.
-- For the clause `done` of `Turns::decide_due`.
use Rattle.std.proofs.Common.{◌≡◌, ℕ, zero, suc, ◌/◌, Bool, true, false, List, [], ◌∷◌, ◌++◌, take, drop, refl, sym, subst}
use Rattle.std.proofs.lemmas.Bool.{and_parts}
use Rattle.journal_theory.proofs.Answering.{no_more, due-same}
use Rattle.policy_eval.specs.Amounts.{amount_at}
use Rattle.policy_eval.specs.Given.{asked_given, are_answered, Asked}
use Rattle.journal_theory.specs.Journal.{Entry, Settings, Journal, Opening, due_now, policies_for, spans_since, clock, answered, are_each_answered, IsAnsweredUpTo}
use Rattle.shard_core.specs.Held.{Held, settings}
use Rattle.shard_core.specs.Taking.{journal_after, DecidesFirst}
use Rattle.shard_core.specs.declared.answer.Decided.{Decided}
use Rattle.shard_core.specs.declared.answer.Decided.TheVariants.{Release, Nothing, Dropped}
use Rattle.shard_worker.specs.Asking.{AskedInTurn, AskedBy}

-- ---- one more decision

module _ {L : Type 0} (asks : L → ℕ → ℕ → ℕ → Bool → L → Type 0) (s : Settings) (second : ℕ) (past : Journal) where
  asked-next : (k : ℕ) (os : List Opening) (given : List (List Bool)) (answers : List Bool) (o : Opening) (rest : List Opening) (old t u : L) → drop k os ≡ o ∷ rest →
      are_each_answered s past (take k os) given ≡ true → AskedInTurn asks s second (spans_since past) os given old t →
      Asked asks second (amount_at (policies_for s (spans_since past o)) (spans_since past o)) (asked_given (policies_for s (spans_since past o)) answers (spans_since past o)) answers t u →
      AskedInTurn asks s second (spans_since past) os (given ++ answers ∷ []) old u
  asked-next k [] given answers o rest old t u e h a q = absurd (no_more k o rest e)
  asked-next zero (p ∷ os) [] answers o rest old t u e h a q =
      let same : o ≡ p = cc in
      let P = λ (r : Opening). Asked asks second (amount_at (policies_for s (spans_since past r)) (spans_since past r)) (asked_given (policies_for s (spans_since past r)) answers (spans_since past r)) answers t u in
      let Q = λ (x : L). Asked asks second (amount_at (policies_for s (spans_since past p)) (spans_since past p)) (asked_given (policies_for s (spans_since past p)) answers (spans_since past p)) answers x u in
      (u, subst Q a (subst P same q), refl)
  asked-next zero (p ∷ os) (g ∷ given) answers o rest old t u e h a q = absurd (let x : false ≡ true = h in cc)
  asked-next (suc k) (p ∷ os) [] answers o rest old t u e h a q = absurd (let x : false ≡ true = h in cc)
  asked-next (suc k) (p ∷ os) (g ∷ given) answers o rest old t u e h a q =
      (a.0, a.1, asked-next k os given answers o rest a.0 t u e (and_parts (are_answered (policies_for s (spans_since past p)) g (spans_since past p)) (are_each_answered s past (take k os) given) h).1 a.2 q)

-- one more decision is answered
asked_answered : {L : Type 0} (asks : L → ℕ → ℕ → ℕ → Bool → L → Type 0) (s : Settings) (first t u : L) (e : Entry) (before : Journal) (k : ℕ) (answers : List Bool) (o : Opening) (rest : List Opening) →
    let past : Journal = e ∷ before in drop k (due_now s past) ≡ o ∷ rest → IsAnsweredUpTo s past k → AskedBy asks s past first t →
    Asked asks (clock past / 1000) (amount_at (policies_for s (spans_since past o)) (spans_since past o)) (asked_given (policies_for s (spans_since past o)) answers (spans_since past o)) answers t u → AskedBy asks s (answered past answers) first u
asked_answered {L} asks s first t u e before k answers o rest due h a q =
    let past : Journal = e ∷ before in
    let more = e.answers ++ answers ∷ [] in
    let P = λ (os : List Opening). AskedInTurn asks s (clock past / 1000) (spans_since past) os more a.0 u in
    (a.0, a.1, subst P (sym (due-same s e before more)) (asked-next asks s (clock past / 1000) past k (due_now s past) e.answers answers o rest a.0 t u due h.0 a.2 q))

-- what a decision does to a limiter
pub asked_deciding : {L : Type 0} (asks : L → ℕ → ℕ → ℕ → Bool → L → Type 0) (first t u : L) (old new : Held) (answer : Decided) (answers : List Bool) (e : Entry) (before : Journal) (k : ℕ) (os : List Opening) →
    let past : Journal = e ∷ before in drop k (due_now (settings old) past) ≡ os → DecidesFirst asks old new answer t u answers past os → AskedBy asks (settings old) past first t → IsAnsweredUpTo (settings old) past k →
    AskedBy asks (settings old) (journal_after answer past answers) first u
asked_deciding {L} asks first t u old new answer answers e before k [] due d a h =
    let past : Journal = e ∷ before in
    let P = λ (x : L). AskedBy asks (settings old) past first x in
    let Q = λ (x : Decided). AskedBy asks (settings old) (journal_after x past answers) first u in
    subst Q (sym d.0) (subst P (sym d.2) a)
asked_deciding asks first t u old new Nothing answers e before k (o ∷ rest) due d a h = absurd d.0
asked_deciding asks first t u old new (Release v) answers e before k (o ∷ rest) due d a h = asked_answered asks (settings old) first t u e before k answers o rest due h a d.2
asked_deciding asks first t u old new (Dropped n) answers e before k (o ∷ rest) due d a h = asked_answered asks (settings old) first t u e before k answers o rest due h a d.2
