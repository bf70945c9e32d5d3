use Rattle.std.proofs.Common.{◌≡◌, ◌++◌, map, drop}
use Rattle.policy_tree.specs.declared.policy.Policy.{Policy}
use Rattle.pipeline.proofs.running.names_of.Given as goal

abbrev pub invariant-loop-policy : goal.invariant-loop-policy
invariant-loop-policy l = l.names.items ++ map (λ (p : Policy). p.name) (drop l.policy-index l.policies) ≡ map (λ (p : Policy). p.name) l.policies
