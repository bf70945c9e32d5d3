use Rattle.std.proofs.Common.{◌≡◌, ◌+◌, ◌≤◌, drop}
use Rattle.toml.specs.View.{items_view}
use Rattle.policy_places.specs.Orders.{count_other}
use Rattle.policy_places.proofs.orders.count_other.Given as goal

-- those so far, and those of the items that are left
abbrev pub invariant-loop-item : goal.invariant-loop-item
invariant-loop-item l = (l.count + count_other (items_view (drop l.item-index l.items)) ≡ count_other (items_view l.items)) × (l.count ≤ l.item-index)
