use Rattle.std.proofs.Common.{◌≡◌, drop}
use Rattle.toml.specs.View.{items_view, array_view, members_view, table_view}
use Rattle.policy_places.specs.Walk.{sought_of, items_place, parts_place, sub_policies_place}
use Rattle.policy_places.proofs.walk.+policies.Given as goal

-- nothing was found so far, and what is found is what is found in the items that are left
abbrev pub invariant-in_items-loop-item : goal.invariant-in_items-loop-item
invariant-in_items-loop-item l = (l.index ≡ l.item-index) × (items_place (sought_of l.sought) l.place l.index (items_view (drop l.item-index l.item-items)) ≡ items_place (sought_of l.sought) l.place 0 (array_view l.items))

abbrev pub invariant-in_parts-loop-key : goal.invariant-in_parts-loop-key
invariant-in_parts-loop-key l = parts_place (sought_of l.sought) l.place l.join (members_view l.key-iterator) ≡ parts_place (sought_of l.sought) l.place l.join (table_view l.table)

abbrev pub invariant-in_sub_policies-loop-key : goal.invariant-in_sub_policies-loop-key
invariant-in_sub_policies-loop-key l = sub_policies_place (sought_of l.sought) l.place l.join (members_view l.key-iterator) ≡ sub_policies_place (sought_of l.sought) l.place l.join (table_view l.table)
