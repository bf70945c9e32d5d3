use Rattle.std.proofs.Common.{◌≡◌, ◌++◌, drop}
use Rattle.toml.specs.View.{items_view, array_view, members_view, table_view}
use Rattle.config_findings.specs.FaultLists.{policy_items_faults, parts_faults, sub_policies_faults}
use Rattle.config_findings.proofs.policy_findings.+policies.Given as goal

-- what was found so far, and the faults of the items that are left
abbrev pub invariant-add_policy_items-loop-item : goal.invariant-add_policy_items-loop-item
invariant-add_policy_items-loop-item l = l.findings ++ policy_items_faults (items_view (drop l.item-index l.item-items)) ≡ l.fn.findings ++ policy_items_faults (array_view l.items)

-- nothing was found so far, and the faults are those of the members that are left
abbrev pub invariant-add_parts-loop-key : goal.invariant-add_parts-loop-key
invariant-add_parts-loop-key l = (l.findings ≡ l.fn.findings) × (parts_faults l.join (members_view l.key-iterator) ≡ parts_faults l.join (table_view l.table))

abbrev pub invariant-add_sub_policies-loop-key : goal.invariant-add_sub_policies-loop-key
invariant-add_sub_policies-loop-key l = (l.findings ≡ l.fn.findings) × (sub_policies_faults l.join (members_view l.key-iterator) ≡ sub_policies_faults l.join (table_view l.table))
