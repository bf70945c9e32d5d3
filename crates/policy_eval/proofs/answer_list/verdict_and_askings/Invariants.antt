use Rattle.std.proofs.Common.{◌≡◌, drop}
use Rattle.policy_tree.specs.Meaning.{meaning}
use Rattle.policy_eval.proofs.GivenTurns.{AtTop}
use Rattle.policy_eval.proofs.Known.{KnowsIn}
use Rattle.policy_eval.proofs.answer_list.verdict_and_askings.Given as goal

abbrev pub invariant-loop-policy : goal.invariant-loop-policy
invariant-loop-policy l =
    AtTop l.answers l.spans (meaning l.policies) (meaning (drop l.policy-index l.policy-items)) l.asked l.seen
    × KnowsIn l.searches (meaning (drop l.policy-index l.policy-items)) × (l.searches ≡ l.fn.searches)
