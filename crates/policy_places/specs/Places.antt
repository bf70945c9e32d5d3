-- How a place in a configuration is written, and what has a fault of policies as it is written there.
use Rattle.std.specs.Prelude.{ℕ, ℤ, pos, negsuc, Bool, true, false, ◌&&◌, ◌||◌, List, [], ◌∷◌, ◌++◌, codes, decimal, Option, None, Some, if◌then◌else◌, int_lt, int_le}
use Rattle.toml.specs.Data.{Data, string, integer, array, table, Items, no_items, item, Members, get_member}
use Rattle.config_faults.specs.Composites.{is_text}
use Rattle.config_faults.specs.declared.policy_types.PolicyType.{PolicyType}
use Rattle.config_faults.specs.declared.policy_types.PolicyType.TheVariants as type_is

-- ---- places

-- the place of a key of the table at a place
abbrev pub key_place : (place key : List ℕ) → List ℕ
key_place [] key = key
key_place (first ∷ rest) key = (first ∷ rest) ++ (codes "." ++ key)

-- the place of an item of the array at a place
abbrev pub item_place : (place : List ℕ) → (index : ℕ) → List ℕ
item_place place index = place ++ (codes "[" ++ (decimal index ++ codes "]"))

-- ---- names

-- the text at `name` of a policy table
abbrev pub text_found : Option Data → Option (List ℕ)
text_found (Some (string text)) = Some text
text_found _ = None

abbrev pub name_of : Data → Option (List ℕ)
name_of (table members) = text_found (get_member (codes "name") members)
name_of _ = None

-- a policy table has this name
abbrev pub is_named : (name : List ℕ) → Data → Bool
is_named name (table members) = is_text name (get_member (codes "name") members)
is_named name _ = false

abbrev pub has_name : (name : List ℕ) → Items → Bool
has_name name no_items = false
has_name name (item value rest) = is_named name value || has_name name rest

-- this name, where one of these policy tables has it; else what is found among them
abbrev pub named_again : Option (List ℕ) → Items → (later : Option (List ℕ)) → Option (List ℕ)
named_again None rest later = later
named_again (Some name) rest later = if has_name name rest then Some name else later

-- the first name that stands in two of these policy tables
abbrev pub doubled_name : Items → Option (List ℕ)
doubled_name no_items = None
doubled_name (item value rest) = named_again (name_of value) rest (doubled_name rest)

-- ---- values and bounds

-- the key at which a policy of this type has a list of what it looks for
abbrev pub values_key : PolicyType → Option (List ℕ)
values_key type_is.StatusCode = Some (codes "status_codes")
values_key type_is.StringAttribute = Some (codes "values")
values_key type_is.TraceState = Some (codes "values")
values_key _ = None

abbrev pub has_no_items : Items → Bool
has_no_items no_items = true
has_no_items (item value rest) = false

abbrev pub is_empty_array : Option Data → Bool
is_empty_array (Some (array items)) = has_no_items items
is_empty_array _ = false

-- this key, where an empty array stands there
abbrev pub empty_at : Option (List ℕ) → Members → Option (List ℕ)
empty_at None settings = None
empty_at (Some key) settings = if is_empty_array (get_member key settings) then Some key else None

-- nothing stands there, or an empty array
abbrev pub is_nothing : Option Data → Bool
is_nothing None = true
is_nothing (Some (array items)) = has_no_items items
is_nothing (Some _) = false

-- neither a condition on spans nor one on events stands there
abbrev pub has_no_conditions : Members → Bool
has_no_conditions settings = is_nothing (get_member (codes "span") settings) && is_nothing (get_member (codes "spanevent") settings)

-- the key of the settings of such a policy at which an empty array stands in place of what it looks for
abbrev pub empty_values : PolicyType → Members → Option (List ℕ)
empty_values type_is.OttlCondition settings = if has_no_conditions settings then Some (codes "span") else None
empty_values kind settings = empty_at (values_key kind) settings

-- the whole number at a key, or its default
abbrev pub whole_of : (default : ℤ) → Option Data → ℤ
whole_of default (Some (integer number)) = number
whole_of default _ = default

-- an upper bound that is one, since it is above 0, leaves nothing
abbrev pub leaves_none : (upper : ℤ) → (is_crossed : Bool) → Bool
leaves_none upper is_crossed = int_lt (pos 0) upper && is_crossed

-- the two bounds of a policy of this type leave nothing between them
abbrev pub are_crossed : PolicyType → Members → Bool
are_crossed type_is.Latency settings =
    leaves_none (whole_of (pos 0) (get_member (codes "upper_threshold_ms") settings))
    (int_le (whole_of (pos 0) (get_member (codes "upper_threshold_ms") settings)) (whole_of (pos 0) (get_member (codes "threshold_ms") settings)))
are_crossed type_is.SpanCount settings =
    leaves_none (whole_of (pos 0) (get_member (codes "max_spans") settings))
    (int_lt (whole_of (pos 0) (get_member (codes "max_spans") settings)) (whole_of (pos 0) (get_member (codes "min_spans") settings)))
are_crossed type_is.NumericAttribute settings =
    int_lt (whole_of (pos 9223372036854775807) (get_member (codes "max_value") settings)) (whole_of (negsuc 9223372036854775807) (get_member (codes "min_value") settings))
are_crossed _ settings = false
