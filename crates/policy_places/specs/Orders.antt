-- Whether the fault that an order of a composite doesn't name its parts follows from other faults.
use Rattle.std.specs.Prelude.{ℕ, ◌+◌, ◌==◌, nat_le, Bool, true, false, not, ◌&&◌, ◌||◌, if◌then◌else◌, List, Option, Some, is_some}
use Rattle.toml.specs.Data.{Data, string, array, Items, no_items, item}
use Rattle.config_faults.specs.Composites.{is_text, is_named, count_items}
use Rattle.policy_places.specs.Places.{name_of}

-- one of these items is this text
abbrev pub is_among : (text : List ℕ) → Items → Bool
is_among text no_items = false
is_among text (item value rest) = is_text text (Some value) || is_among text rest

-- an item is a text that stands further on too
abbrev pub is_doubled : Data → (rest : Items) → Bool
is_doubled (string text) rest = is_among text rest
is_doubled _ rest = false

-- a text stands twice among these items
abbrev pub has_doubled : Items → Bool
has_doubled no_items = false
has_doubled (item value rest) = is_doubled value rest || has_doubled rest

-- an item is no text
abbrev pub is_other : Data → Bool
is_other (string text) = false
is_other _ = true

-- how many items are no texts
abbrev pub count_other : Items → ℕ
count_other no_items = 0
count_other (item value rest) = (if is_other value then 1 else 0) + count_other rest

-- a policy table has a name, which is none of these texts
abbrev pub is_left_out : (order : Items) → (part : Data) → Bool
is_left_out order part = is_some (name_of part) && not (is_named order part)

-- how many of these policy tables have such a name
abbrev pub count_left_out : (order parts : Items) → ℕ
count_left_out order no_items = 0
count_left_out order (item part parts) = (if is_left_out order part then 1 else 0) + count_left_out order parts

-- there are as many items as policy tables, no text twice, and an item that is no text for each name that is left out: as
-- many texts are then left for the tables without a name
abbrev pub may_be_order : (order parts : Items) → Bool
may_be_order order parts = (count_items order == count_items parts) && (not (has_doubled order) && nat_le (count_left_out order parts) (count_other order))

-- it is for other faults alone that an order doesn't name the parts
abbrev pub order_follows : (order parts : Option Data) → Bool
order_follows (Some (array order)) (Some (array parts)) = may_be_order order parts
order_follows _ _ = false
