use Rattle.std.proofs.Common.{◌≡◌, drop}
use Rattle.policy_tree.specs.Meaning.{meaning, policy_meaning}
use Rattle.policy_eval.proofs.Turns.{Turn}
use Rattle.policy_eval.proofs.Known.{KnowsIn}
use Rattle.policy_eval.proofs.verdict.+answer.Given as goal

abbrev pub decreases-answer : goal.decreases-answer
decreases-answer g l = goal.size-answer g l

abbrev pub invariant-loop-part : goal.invariant-loop-part
invariant-loop-part g l =
    Turn g.row.L.Denot g.L.Limiter.has_node g.L.Limiter.asks l.fn.limiter (policy_meaning l.policy) l.join (meaning l.part-items) l.node l.second l.spans
    l.limiter (meaning (drop l.part-index l.part-items)) l.next l.seen
    × KnowsIn l.searches (meaning (drop l.part-index l.part-items)) × (l.searches ≡ l.fn.searches)
