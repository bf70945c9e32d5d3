use Rattle.std.proofs.Common.{◌≡◌, drop}
use Rattle.toml.specs.View.{items_view, view}
use Rattle.config_faults.specs.Composites.{is_named}
use Rattle.config_faults.proofs.composites.is_named.Given as goal

-- the texts that were passed over aren't the name
abbrev pub invariant-loop-text : goal.invariant-loop-text
invariant-loop-text l = is_named (items_view (drop l.text-index l.order)) (view l.part) ≡ is_named (items_view l.order) (view l.part)
