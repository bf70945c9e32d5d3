-- Which texts name the parts of a composite, each just once.
use Rattle.std.specs.Prelude.{ℕ, ◌+◌, ◌==◌, Bool, true, false, ◌&&◌, ◌||◌, List, codes, Option, Some}
use Rattle.std.specs.Str.{bytes_eq}
use Rattle.toml.specs.Data.{Data, string, array, table, Items, no_items, item, get_member}

-- the value is this text
abbrev pub is_text : List ℕ → Option Data → Bool
is_text text (Some (string found)) = bytes_eq text found
is_text text _ = false

-- the text is the name of this policy table
abbrev pub is_name : Data → Data → Bool
is_name (string text) (table members) = is_text text (get_member (codes "name") members)
is_name _ _ = false

-- the text is the name of one of these policy tables
abbrev pub is_part : (text : Data) → (parts : Items) → Bool
is_part text no_items = false
is_part text (item part parts) = is_name text part || is_part text parts

-- one of these texts is the name of the policy table
abbrev pub is_named : (order : Items) → (part : Data) → Bool
is_named no_items part = false
is_named (item text order) part = is_name text part || is_named order part

-- each of these texts is the name of one of these policy tables
abbrev pub are_parts : (order parts : Items) → Bool
are_parts no_items parts = true
are_parts (item text order) parts = is_part text parts && are_parts order parts

-- each of these policy tables has one of these texts as its name
abbrev pub are_named : (order parts : Items) → Bool
are_named order no_items = true
are_named order (item part parts) = is_named order part && are_named order parts

-- how many items there are
abbrev pub count_items : Items → ℕ
count_items no_items = 0
count_items (item value rest) = 1 + count_items rest

-- there are as many texts as policy tables, and each of either has one of the others: where no two of the tables have the
-- same name, the texts are their names in some order, each once
abbrev pub is_order : (order parts : Items) → Bool
is_order order parts = (count_items order == count_items parts) && (are_parts order parts && are_named order parts)

-- there is no order, or it is one of the parts
abbrev pub is_ordered : (order parts : Option Data) → Bool
is_ordered (Some (array order)) (Some (array parts)) = is_order order parts
is_ordered _ _ = true
