use Rattle.std.proofs.Common.{◌≡◌, drop}
use Rattle.toml.specs.View.{items_view}
use Rattle.config_faults.specs.Composites.{are_named}
use Rattle.config_faults.proofs.composites.are_named.Given as goal

-- the policy tables that are left decide
abbrev pub invariant-loop-part : goal.invariant-loop-part
invariant-loop-part l = are_named (items_view l.order) (items_view (drop l.part-index l.parts)) ≡ are_named (items_view l.order) (items_view l.parts)
