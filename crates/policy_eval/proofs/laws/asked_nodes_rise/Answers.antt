-- The nodes that a decision asks rise.
-- For `asked_nodes_rise`.
use Rattle.std.proofs.Common.{ℕ, subst, zero-add}
use Rattle.policy_tree.specs.Tree.{nodes_in}
use Rattle.rate_budget.specs.Rising.{Rises}
use Rattle.policy_eval.specs.Given.{asked_given}
use Rattle.policy_eval.specs.GivenLaws.{top-rise}
use Rattle.policy_eval.proofs.laws.asked_nodes_rise.Goals as goal

pub returns : goal.returns
returns c = λ policies answers spans.
    let P = λ (behind : ℕ). Rises 0 behind (asked_given policies answers spans) in
    subst P (zero-add (nodes_in policies)) (top-rise policies 0 answers spans)
