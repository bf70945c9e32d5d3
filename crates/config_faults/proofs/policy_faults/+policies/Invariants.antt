use Rattle.std.proofs.Common.{◌≡◌, drop}
use Rattle.toml.specs.View.{items_view, array_view, members_view, table_view}
use Rattle.config_faults.specs.Faults.{least, policy_items_fault, parts_fault, sub_policies_fault}
use Rattle.config_faults.proofs.policy_faults.+policies.Given as goal

-- the least so far and the least of those that are left make the least of all
abbrev pub invariant-policy_items_fault-loop-item : goal.invariant-policy_items_fault-loop-item
invariant-policy_items_fault-loop-item l = least l.fault (policy_items_fault (items_view (drop l.item-index l.item-items))) ≡ policy_items_fault (array_view l.items)

-- the fault is that of the members that are left
abbrev pub invariant-parts_fault-loop-key : goal.invariant-parts_fault-loop-key
invariant-parts_fault-loop-key l = parts_fault l.join (members_view l.key-iterator) ≡ parts_fault l.join (table_view l.table)

abbrev pub invariant-sub_policies_fault-loop-key : goal.invariant-sub_policies_fault-loop-key
invariant-sub_policies_fault-loop-key l = sub_policies_fault l.join (members_view l.key-iterator) ≡ sub_policies_fault l.join (table_view l.table)
