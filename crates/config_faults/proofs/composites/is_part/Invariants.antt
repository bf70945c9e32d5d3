use Rattle.std.proofs.Common.{◌≡◌, drop}
use Rattle.toml.specs.View.{items_view, view}
use Rattle.config_faults.specs.Composites.{is_part}
use Rattle.config_faults.proofs.composites.is_part.Given as goal

-- the policy tables that were passed over don't have the name
abbrev pub invariant-loop-part : goal.invariant-loop-part
invariant-loop-part l = is_part (view l.text) (items_view (drop l.part-index l.parts)) ≡ is_part (view l.text) (items_view l.parts)
