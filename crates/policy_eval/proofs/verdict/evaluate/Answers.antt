-- The verdict of the policies.
-- For the clause `evaluates` of `evaluate`.
use Rattle.policy_eval.proofs.verdict.evaluate.Goals as goal

pub returns-clause-evaluates : goal.returns-clause-evaluates
returns-clause-evaluates g c =
    let told = c.evaluate_with_decider.ensures.evaluates in
    (told.0, told.1, told.2, told.3)
