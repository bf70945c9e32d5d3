use Rattle.std.proofs.Common.{◌≡◌, drop}
use Rattle.policy_eval.specs.Policies.{matches}
use Rattle.policy_eval.proofs.attribute.matches.Given as goal

abbrev pub invariant-loop-arrival : goal.invariant-loop-arrival
invariant-loop-arrival l = (matches l.key l.wanted (drop l.arrival-index l.spans) ≡ matches l.key l.wanted l.spans) × (l.searches ≡ l.fn.searches)
