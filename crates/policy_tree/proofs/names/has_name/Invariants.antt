use Rattle.std.proofs.Common.{◌≡◌, map, drop}
use Rattle.policy_tree.specs.Faults.{named, has_name}
use Rattle.policy_tree.proofs.names.has_name.Given as goal

abbrev pub invariant-loop-policy : goal.invariant-loop-policy
invariant-loop-policy l = has_name l.name (map named (drop l.policy-index l.list)) ≡ has_name l.name (map named l.list)
