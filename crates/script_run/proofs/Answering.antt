-- The answers of a script's limiter: each decision gets as many as it asks for, and is made by them.
-- For the contract of `scripts_are_runs_of_the_core`.
use Rattle.std.proofs.Common.{◌≡◌, ℕ, ◌/◌, Bool, true, false, cond, ◌&&◌, List, [], ◌∷◌, length, slice_get, Some, None, refl, ap, ◌∙◌}
use Rattle.std.specs.Option.{option_and_then}
use Rattle.policy_eval.specs.Given.{are_answered}
use Rattle.policy_eval.specs.GivenLaws.{given-by}
use Rattle.policy_eval.specs.Amounts.{granted_on}
use Rattle.rate_budget.specs.Grant.{Asking}
use Rattle.journal_theory.specs.Journal.{Settings, Entry, Journal, Opening, clock, due_now, decision, policies_for, spans_since, are_each_answered}
use Rattle.journal_theory.specs.Fate.{effect_of_decision}
use Rattle.journal_theory.proofs.Answering.{due-same, each-same}
use Rattle.journal_theory.specs.Answered.{effect_answered, effect_answered_at}
use Rattle.script_run.specs.Limiting.{asked_more, answers_in_turn, with_answers}

-- an entry, where its first decisions were given these answers
abbrev pub given_to : Entry → (answers : List (List Bool)) → Entry
given_to e answers = record e { answers = answers }

-- each decision at this entry is given one answer for each asking
abbrev pub AreGiven : Settings → Entry → Journal → Type 0
AreGiven s e J = are_each_answered s (e ∷ J) (due_now s (e ∷ J)) e.answers ≡ true

-- what the next decision does by its answers
pub next_effect : (s : Settings) (e : Entry) (J : Journal) (given : List (List Bool)) (n : ℕ) (o : Opening) (answers : List Bool) → slice_get (due_now s (e ∷ J)) n ≡ Some o
    → are_answered (policies_for s (spans_since (e ∷ J) o)) answers (spans_since (e ∷ J) o) ≡ true → effect_answered_at s (given_to e given ∷ J) n answers ≡ Some (effect_of_decision (decision s (e ∷ J) o answers))
next_effect s e J given n o answers due fits =
    ap (λ (os : List Opening). option_and_then (effect_answered s (e ∷ J) answers) (slice_get os n)) (due-same s e J given)
    ∙ (ap (option_and_then (effect_answered s (e ∷ J) answers)) due
    ∙ ap (λ b. cond b (Some (effect_of_decision (decision s (e ∷ J) o answers))) None) fits)

-- the limiter answers each asking once
each_fits : (s : Settings) (past : Journal) (os : List Opening) (askings : List Asking) → are_each_answered s past os (answers_in_turn s past os askings) ≡ true
each_fits s past [] askings = refl
each_fits s past (o ∷ rest) askings =
    let spans = spans_since past o in
    let second = clock past / 1000 in
    both _ _ (given-by (policies_for s spans) (granted_on s.policies askings second spans) spans).2 (each_fits s past rest (asked_more s askings second spans))
  where
    both : (a b : Bool) → a ≡ true → b ≡ true → (a && b) ≡ true
    both true b e f = f
    both false b e f = absurd (cc e)

pub answers_fit : (s : Settings) (e : Entry) (J : Journal) (askings : List Asking) → AreGiven s (with_answers s J askings e) J
answers_fit s e J askings =
    let given = answers_in_turn s (e ∷ J) (due_now s (e ∷ J)) askings in
    ap (λ (os : List Opening). are_each_answered s (given_to e given ∷ J) os given) (due-same s e J given)
    ∙ (each-same s e J given (due_now s (e ∷ J)) given ∙ each_fits s (e ∷ J) (due_now s (e ∷ J)) askings)
