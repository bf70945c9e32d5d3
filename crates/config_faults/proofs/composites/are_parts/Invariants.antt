use Rattle.std.proofs.Common.{◌≡◌, drop}
use Rattle.toml.specs.View.{items_view}
use Rattle.config_faults.specs.Composites.{are_parts}
use Rattle.config_faults.proofs.composites.are_parts.Given as goal

-- the texts that are left decide
abbrev pub invariant-loop-text : goal.invariant-loop-text
invariant-loop-text l = are_parts (items_view (drop l.text-index l.order)) (items_view l.parts) ≡ are_parts (items_view l.order) (items_view l.parts)
