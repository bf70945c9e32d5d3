use Rattle.std.proofs.Common.{◌≡◌, false, map, drop}
use Rattle.std.specs.List.{list_any}
use Rattle.policy_tree.specs.Faults.{NamedPolicy, named, has_same_names}
use Rattle.policy_tree.proofs.names.+names.Given as goal

abbrev pub invariant-has_doubled_names-loop-policy : goal.invariant-has_doubled_names-loop-policy
invariant-has_doubled_names-loop-policy l = (has_same_names (map named l.list) ≡ false) × (list_any (λ (p : NamedPolicy). p.doubled) (map named (drop l.policy-index l.list)) ≡ list_any (λ (p : NamedPolicy). p.doubled) (map named l.list))
