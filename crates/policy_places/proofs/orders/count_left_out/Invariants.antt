use Rattle.std.proofs.Common.{◌≡◌, ◌+◌, ◌≤◌, drop}
use Rattle.toml.specs.View.{items_view}
use Rattle.policy_places.specs.Orders.{count_left_out}
use Rattle.policy_places.proofs.orders.count_left_out.Given as goal

-- those so far, and those of the policy tables that are left
abbrev pub invariant-loop-part : goal.invariant-loop-part
invariant-loop-part l = (l.count + count_left_out (items_view l.order) (items_view (drop l.part-index l.parts)) ≡ count_left_out (items_view l.order) (items_view l.parts)) × (l.count ≤ l.part-index)
