use Rattle.std.proofs.Common.{◌≡◌, drop}
use Rattle.policy_tree.specs.Meaning.{meaning}
use Rattle.policy_eval.proofs.Turns.{Top}
use Rattle.policy_eval.proofs.Known.{KnowsIn}
use Rattle.policy_eval.proofs.verdict.evaluate_with_answers.Given as goal

abbrev pub invariant-loop-place : goal.invariant-loop-place
invariant-loop-place g l =
    Top g.row.L.Denot g.L.Limiter.has_node g.L.Limiter.asks l.fn.limiter (meaning l.policies) l.second l.spans
    l.limiter (meaning (drop l.place l.all)) l.next l.seen l.place l.firsts l.answers.items
    × KnowsIn l.searches (meaning (drop l.place l.all)) × (l.searches ≡ l.fn.searches)
