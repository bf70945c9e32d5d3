-- In which order the parts of a composite are asked: of the policies, and of their tables.
use Rattle.std.specs.Prelude.{Bool, false, List, [], ◌∷◌, Option, Some, None, if◌then◌else◌}
use Rattle.std.specs.Str.{bytes_eq}
use Rattle.toml.specs.Data.{Data, string, array, Items, no_items, item}
use Rattle.policy_tree.specs.declared.policy.Policy.{Policy}
use Rattle.config_faults.specs.Composites.{is_name}

-- one element or none, before others
abbrev pub found_before : {A : Type 0} → Option A → List A → List A
found_before None rest = rest
found_before (Some found) rest = found ∷ rest

-- the text is the name of this policy
abbrev pub names : Data → Policy → Bool
names (string text) policy = bytes_eq text policy.name
names _ _ = false

-- the first of these policies that the text names
abbrev pub first_named : Data → List Policy → Option Policy
first_named text [] = None
first_named text (policy ∷ rest) = if names text policy then Some policy else first_named text rest

-- for each of these texts the first policy that it names
abbrev pub each_named : (order : Items) → List Policy → List Policy
each_named no_items policies = []
each_named (item text order) policies = found_before (first_named text policies) (each_named order policies)

-- the policies in the order in which they are asked: that of the texts at its key, where there are some, or else their own
abbrev pub ordered : (order : Option Data) → List Policy → List Policy
ordered (Some (array order)) policies = each_named order policies
ordered _ policies = policies

-- the first of these policy tables that the text names
abbrev pub first_item : (text : Data) → Items → Option Data
first_item text no_items = None
first_item text (item part parts) = if is_name text part then Some part else first_item text parts

-- one item or none, before others
abbrev pub item_before : Option Data → Items → Items
item_before None rest = rest
item_before (Some value) rest = item value rest

-- for each of these texts the first policy table that it names
abbrev pub each_item : (order items : Items) → Items
each_item no_items items = no_items
each_item (item text order) items = item_before (first_item text items) (each_item order items)

-- the policy tables in the order of these texts, where there are some, or else in their own
abbrev pub ordered_items : (order : Option Data) → Items → Items
ordered_items (Some (array order)) items = each_item order items
ordered_items _ items = items
