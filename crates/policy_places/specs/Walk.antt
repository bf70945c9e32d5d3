-- Where a fault of policies, or a condition, stands in the table of a configuration: at the first place that is written so.
use Rattle.std.specs.Prelude.{ℕ, ◌+◌, List, codes, Option, None, Some, option_map, if◌then◌else◌, string_bytes}
use Rattle.std.specs.Str.{bytes_eq}
use Rattle.toml.specs.Data.{Data, array, table, Items, no_items, item, Members, no_members, member, get_member}
use Rattle.policy_tree.specs.declared.fault.PolicyFault.{PolicyFault}
use Rattle.policy_tree.specs.declared.fault.PolicyFault.TheVariants.{EmptyList, SameName, CrossedBounds, NoValues}
use Rattle.policy_tree.specs.declared.policy.Join.{Join}
use Rattle.policy_tree.specs.declared.policy.Join.TheVariants as join_is
use Rattle.config_faults.specs.Keys.{type_at, join_name, sub_key, join_at}
use Rattle.config_faults.specs.PolicyTypes.{type_name}
use Rattle.config_faults.specs.declared.policy_types.PolicyType.{PolicyType}
use Rattle.config_faults.specs.declared.policy_types.PolicyType.TheVariants as type_is
use Rattle.policy_places.specs.Places.{key_place, item_place, doubled_name, empty_values, are_crossed}
use Rattle.config_faults.specs.Composites.{is_text}
use Rattle.policy_places.specs.declared.walk.FaultPlace.{FaultPlace}
use Rattle.policy_places.specs.declared.walk.Sought.{Sought as Held}
use Rattle.policy_places.specs.declared.walk.Sought.TheVariants as held_as

-- what is looked for: a fault, or a policy `ottl_condition` that has this text at this key
pub data Sought : Type 0 where
  fault : PolicyFault → Sought
  condition : (key text : List ℕ) → Sought

-- as the program holds it
abbrev pub sought_of : Held → Sought
sought_of (held_as.Fault f) = fault f
sought_of (held_as.Condition key text) = condition key.now text.now

-- a place, and the name that two policies of a list there have, where this is the fault
pub record Place : Type 0 where
  pub keys : List ℕ
  pub name : Option (List ℕ)

-- the program's places
abbrev pub seen_place : FaultPlace → Place
seen_place f = record { keys = string_bytes f.keys; name = option_map string_bytes f.name }

abbrev pub seen : Option FaultPlace → Option Place
seen found = option_map seen_place found

abbrev pub unnamed : (place : List ℕ) → Place
unnamed place = record { keys = place; name = None }

-- the first of two, where it is there
abbrev pub first_place : Option Place → Option Place → Option Place
first_place None second = second
first_place (Some place) second = Some place

-- ---- of one list, and of one policy

abbrev pub empty_place : (place : List ℕ) → Items → Option Place
empty_place place no_items = Some (unnamed place)
empty_place place (item value rest) = None

abbrev pub named_place : (place : List ℕ) → (name : Option (List ℕ)) → Option Place
named_place place None = None
named_place place (Some name) = Some (record { keys = place; name = Some name })

-- of a list its own fault: it is empty, or two of its policies have the same name
abbrev pub own_place : Sought → (place : List ℕ) → Items → Option Place
own_place (fault EmptyList) place items = empty_place place items
own_place (fault SameName) place items = named_place place (doubled_name items)
own_place _ place items = None

abbrev pub values_place : (place : List ℕ) → (key : Option (List ℕ)) → Option Place
values_place place None = None
values_place place (Some key) = Some (unnamed (key_place place key))

-- where an array of texts, from a number on, has this one first
abbrev pub text_among : (place text : List ℕ) → (index : ℕ) → Items → Option Place
text_among place text index no_items = None
text_among place text index (item value rest) = if is_text text (Some value) then Some (unnamed (item_place place index)) else text_among place text (index + 1) rest

abbrev pub text_place : (place text : List ℕ) → Option Data → Option Place
text_place place text (Some (array items)) = text_among place text 0 items
text_place place text _ = None

-- of the settings of a policy of this type, which isn't made of others, the fault of its bounds or of its values, or a
-- condition
unfoldable pub leaf_settings_place : Sought → (place : List ℕ) → PolicyType → Members → Option Place
leaf_settings_place (fault CrossedBounds) place kind settings = if are_crossed kind settings then Some (unnamed place) else None
leaf_settings_place (fault NoValues) place kind settings = values_place place (empty_values kind settings)
leaf_settings_place (condition key text) place type_is.OttlCondition settings = text_place (key_place place key) text (get_member key settings)
leaf_settings_place _ place kind settings = None

abbrev pub leaf_value_place : Sought → (place : List ℕ) → PolicyType → Data → Option Place
leaf_value_place sought place kind (table settings) = leaf_settings_place sought place kind settings
leaf_value_place sought place kind _ = None

abbrev pub leaf_found : Sought → (place : List ℕ) → PolicyType → Option Data → Option Place
leaf_found sought place kind None = None
leaf_found sought place kind (Some value) = leaf_value_place sought place kind value

-- of a policy table of this type
abbrev pub leaf_place : Sought → (place : List ℕ) → PolicyType → Members → Option Place
leaf_place sought place kind members = leaf_found sought (key_place place (type_name kind)) kind (get_member (type_name kind) members)

-- of a policy table: `nested` is what is found in the settings of a type that is made of others
abbrev pub typed_place : Sought → (place : List ℕ) → Option PolicyType → Members → (nested : Option Place) → Option Place
typed_place sought place None _ nested = None
typed_place sought place (Some type_is.And) _ nested = nested
typed_place sought place (Some type_is.Not) _ nested = nested
typed_place sought place (Some type_is.Drop) _ nested = nested
typed_place sought place (Some type_is.Composite) _ nested = nested
typed_place sought place (Some kind) members nested = leaf_place sought place kind members

-- ---- all of them

abbrev mutual
  -- in one of the policies of a list at a place, from a number on
  pub items_place : Sought → (place : List ℕ) → (index : ℕ) → Items → Option Place
  items_place sought place index no_items = None
  items_place sought place index (item value rest) = first_place (policy_place sought (item_place place index) value) (items_place sought place (index + 1) rest)

  -- in a policy at a place, where it is a table
  pub policy_place : Sought → (place : List ℕ) → Data → Option Place
  policy_place sought place (table members) = typed_place sought place (type_at members) members (parts_place sought place (join_at members) members)
  policy_place sought place _ = None

  -- in the settings of a policy that is joined so, in a policy table
  pub parts_place : Sought → (place : List ℕ) → Join → Members → Option Place
  parts_place sought place join no_members = None
  parts_place sought place join (member key value rest) = if bytes_eq key (join_name join) then settings_place sought (key_place place (join_name join)) join value else parts_place sought place join rest

  pub settings_place : Sought → (place : List ℕ) → Join → Data → Option Place
  settings_place sought place join (table members) = sub_policies_place sought place join members
  settings_place sought place join _ = None

  pub sub_policies_place : Sought → (place : List ℕ) → Join → Members → Option Place
  sub_policies_place sought place join no_members = None
  sub_policies_place sought place join (member key value rest) = if bytes_eq key (sub_key join) then sub_value_place sought (key_place place (sub_key join)) join value else sub_policies_place sought place join rest

  -- in the policies that are joined: a list of policy tables, or of a `not` one policy table
  pub sub_value_place : Sought → (place : List ℕ) → Join → Data → Option Place
  sub_value_place sought place join_is.Not (table members) = typed_place sought place (type_at members) members (parts_place sought place (join_at members) members)
  sub_value_place sought place join_is.And (array items) = first_place (own_place sought place items) (items_place sought place 0 items)
  sub_value_place sought place join_is.Drop (array items) = first_place (own_place sought place items) (items_place sought place 0 items)
  sub_value_place sought place join_is.FirstMatch (array items) = first_place (own_place sought place items) (items_place sought place 0 items)
  sub_value_place sought place _ _ = None

-- in a list of policies at a place
abbrev pub list_place : Sought → (place : List ℕ) → Items → Option Place
list_place sought place items = first_place (own_place sought place items) (items_place sought place 0 items)

abbrev pub policies_place : Sought → Option Data → Option Place
policies_place sought (Some (array items)) = list_place sought (codes "policies") items
policies_place sought _ = None

-- in the table of a configuration
abbrev pub sought_place : Sought → Members → Option Place
sought_place sought members = policies_place sought (get_member (codes "policies") members)

abbrev pub fault_place : PolicyFault → Members → Option Place
fault_place f members = sought_place (fault f) members

-- the keys of a place
abbrev pub keys_of : Place → List ℕ
keys_of place = place.keys

abbrev pub condition_place : (key text : List ℕ) → Members → Option (List ℕ)
condition_place key text members = option_map keys_of (sought_place (condition key text) members)
