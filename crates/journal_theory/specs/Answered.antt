-- A decision by the answers that are given to it.
use Rattle.std.specs.Prelude.{ℕ, Bool, if◌then◌else◌, List, Option, Some, None, option_and_then, slice_get}
use Rattle.policy_eval.specs.Given.{are_answered}
use Rattle.journal_theory.specs.Journal.{Settings, Journal, Opening, due_now, decision, policies_for, spans_since}
use Rattle.journal_theory.specs.Fate.{Effect, effect_of_decision}

-- what the decision of this episode does by these answers, where there is one for each asking
abbrev pub effect_answered : Settings → Journal → (answers : List Bool) → Opening → Option Effect
effect_answered s past answers o = if are_answered (policies_for s (spans_since past o)) answers (spans_since past o) then Some (effect_of_decision (decision s past o answers)) else None

-- what the decision at this place of those at the journal's last item does by these answers, where an episode is due
-- there, and there is one answer for each asking
abbrev pub effect_answered_at : Settings → Journal → (place : ℕ) → (answers : List Bool) → Option Effect
effect_answered_at s past place answers = option_and_then (effect_answered s past answers) (slice_get (due_now s past) place)
