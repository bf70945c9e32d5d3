use Rattle.std.proofs.Common.{◌≡◌, drop}
use Rattle.toml.specs.View.{items_view}
use Rattle.policy_places.specs.Orders.{is_among}
use Rattle.policy_places.proofs.orders.is_among.Given as goal

-- the text isn't among the items that were passed over
abbrev pub invariant-loop-item : goal.invariant-loop-item
invariant-loop-item l = is_among l.text (items_view (drop l.item-index l.items)) ≡ is_among l.text (items_view l.items)
