use Rattle.std.proofs.Common.{◌≡◌, ◌++◌, drop}
use Rattle.toml.specs.View.{items_view, array_view, members_view, table_view}
use Rattle.tsc_config.specs.Values.{item_policies, parts_policies, sub_policies}
use Rattle.tsc_config.proofs.values.+policies.Given as goal

-- those so far, and those of the items that are left
abbrev pub invariant-item_policies-loop-item : goal.invariant-item_policies-loop-item
invariant-item_policies-loop-item l = l.list ++ item_policies (items_view (drop l.item-index l.item-items)) ≡ item_policies (array_view l.items)

-- the policies are those of the members that are left
abbrev pub invariant-parts_policies-loop-key : goal.invariant-parts_policies-loop-key
invariant-parts_policies-loop-key l = parts_policies l.join (members_view l.key-iterator) ≡ parts_policies l.join (table_view l.table)

abbrev pub invariant-sub_policies-loop-key : goal.invariant-sub_policies-loop-key
invariant-sub_policies-loop-key l = sub_policies l.join (members_view l.key-iterator) ≡ sub_policies l.join (table_view l.table)
