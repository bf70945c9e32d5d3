use Rattle.std.proofs.Common.{◌≡◌, drop}
use Rattle.policy_eval.specs.Policies.{has_wanted}
use Rattle.policy_eval.proofs.attribute.has_wanted.Given as goal

abbrev pub invariant-loop-attribute : goal.invariant-loop-attribute
invariant-loop-attribute l = (has_wanted l.key l.wanted (drop l.attribute-index l.attributes) ≡ has_wanted l.key l.wanted l.attributes) × (l.searches ≡ l.fn.searches)
