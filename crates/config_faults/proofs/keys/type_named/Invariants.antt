use Rattle.std.proofs.Common.{◌≡◌, drop}
use Rattle.config_faults.specs.PolicyTypes.{all_types}
use Rattle.config_faults.specs.Keys.{type_among}
use Rattle.config_faults.proofs.keys.type_named.Given as goal

-- the type is that among those that are left
abbrev pub invariant-loop-kind : goal.invariant-loop-kind
invariant-loop-kind l = type_among (drop l.kind-index all_types) l.text ≡ type_among all_types l.text
