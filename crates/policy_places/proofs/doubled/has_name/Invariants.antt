use Rattle.std.proofs.Common.{◌≡◌, drop}
use Rattle.toml.specs.View.{items_view}
use Rattle.policy_places.specs.Places.{has_name}
use Rattle.policy_places.proofs.doubled.has_name.Given as goal

-- the policy tables that were passed over don't have the name
abbrev pub invariant-loop-item : goal.invariant-loop-item
invariant-loop-item l = has_name l.name (items_view (drop l.item-index l.items)) ≡ has_name l.name (items_view l.items)
