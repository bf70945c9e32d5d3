use Rattle.std.proofs.Common.{◌≡◌, drop}
use Rattle.policy_tree.specs.Meaning.{meaning, policy_meaning}
use Rattle.policy_eval.proofs.GivenTurns.{Part}
use Rattle.policy_eval.proofs.Known.{KnowsIn}
use Rattle.policy_eval.proofs.answer_list.+answer_given.Given as goal

abbrev pub decreases-answer_given : goal.decreases-answer_given
decreases-answer_given l = goal.size-answer_given l

abbrev pub invariant-loop-part : goal.invariant-loop-part
invariant-loop-part l =
    Part l.answers l.spans (policy_meaning l.policy) l.join (meaning l.part-items) l.asked (meaning (drop l.part-index l.part-items)) l.next l.seen
    × KnowsIn l.searches (meaning (drop l.part-index l.part-items)) × (l.searches ≡ l.fn.searches)
