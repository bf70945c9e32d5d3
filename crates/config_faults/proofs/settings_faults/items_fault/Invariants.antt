use Rattle.std.proofs.Common.{◌≡◌, drop}
use Rattle.toml.specs.View.{items_view, array_view}
use Rattle.config_faults.specs.Faults.{least, item_fault, items_fault}
use Rattle.config_faults.proofs.settings_faults.items_fault.Given as goal

-- the least so far and the least of those that are left make the least of all
abbrev pub invariant-loop-item : goal.invariant-loop-item
invariant-loop-item l = least l.fault (items_fault (item_fault l.kind) (items_view (drop l.item-index l.item-items))) ≡ items_fault (item_fault l.kind) (array_view l.items)
