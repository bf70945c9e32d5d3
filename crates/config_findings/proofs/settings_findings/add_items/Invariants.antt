use Rattle.std.proofs.Common.{◌≡◌, ◌++◌, drop}
use Rattle.toml.specs.View.{items_view, array_view}
use Rattle.config_findings.specs.FaultLists.{items_faults}
use Rattle.config_faults.specs.Faults.{item_fault}
use Rattle.config_findings.proofs.settings_findings.add_items.Given as goal

-- what was found so far, and the faults of the items that are left
abbrev pub invariant-loop-item : goal.invariant-loop-item
invariant-loop-item l = l.findings ++ items_faults (item_fault l.kind) (items_view (drop l.item-index l.item-items)) ≡ l.fn.findings ++ items_faults (item_fault l.kind) (array_view l.items)
