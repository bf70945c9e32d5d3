-- What each policy has from its table, key by key, for each type of policy: what stands at the key, or the key's
-- default.
use Rattle.std.specs.Prelude.{◌≡◌, ℕ, ◌*◌, ◌≤◌, min, ℤ, pos, negsuc, Bool, true, false, List, [], ◌∷◌, map, length, slice_get, ◌⊎◌, codes, Option, Some, None, Ok}
use Rattle.std.specs.Float.{Float}
use lib.Ieee.{eq}
use Rattle.toml.specs.Data.{Data, string, integer, float, boolean, array, table, Items, no_items, item, Members, get_member, get_item}
use Rattle.toml.specs.Parse.{parse_document}
use Rattle.ottl_text.specs.declared.expression.ErrorMode.{ErrorMode}
use Rattle.ottl_text.specs.declared.expression.ErrorMode.TheVariants as mode_is
use Rattle.policy_tree.specs.declared.limit.Limit.TheVariants.{Spans, Bytes}
use Rattle.policy_tree.specs.declared.policy.Policy.{Policy}
use Rattle.policy_tree.specs.declared.policy.PolicyKind.{PolicyKind, out-PolicyKind}
use Rattle.policy_tree.specs.declared.policy.PolicyKind.TheOpen.{PolicyKind-F}
use Rattle.policy_tree.specs.declared.policy.Leaf.{Leaf}
use Rattle.policy_tree.specs.declared.policy.Leaf.TheVariants as leaf_is
use Rattle.policy_tree.specs.declared.policy.Wanted.{Wanted}
use Rattle.policy_tree.specs.declared.policy.Wanted.TheVariants.{StringAmong, StringMatching, NumberWithin, Boolean}
use Rattle.policy_tree.specs.declared.policy.Join.{Join}
use Rattle.policy_tree.specs.declared.policy.Join.TheVariants as join_is
use Rattle.config_faults.specs.Keys.{join_name, sub_key, join_at}
use Rattle.config_faults.specs.Percentages.{over_ten_thousand}
use Rattle.tsc_config.specs.Reading.{reading}
use Rattle.tsc_config.specs.Settings.{IsNumberAt}
use Rattle.config_faults.specs.Composites.{is_ordered, count_items}
use Rattle.tsc_config.specs.PolicyOrder.{ordered, ordered_items}
use Rattle.tsc_config.specs.Values.{matched, items_at, within_share}
use Rattle.tsc_config.specs.declared.config.Config.{Config}

-- ---- one key

-- the text at a required key
abbrev pub IsText : Members → (key text : List ℕ) → Type 0
IsText members key text = get_member key members ≡ Some (string text)

-- the number at a required key, a whole one from 0 to 2^63-1
abbrev pub IsNatural : Members → (key : List ℕ) → (number : ℕ) → Type 0
IsNatural members key number = (get_member key members ≡ Some (integer (pos number))) × (number ≤ 9223372036854775807)

-- the number of a key that may be missing: a whole one from 0 to 2^63-1, else 0
abbrev pub IsNaturalOrZero : Members → (key : List ℕ) → (number : ℕ) → Type 0
IsNaturalOrZero members key number = IsNumberAt members key 0 0 9223372036854775807 number

-- the whole number of a key that may be missing
abbrev pub IsWholeAt : Members → (key : List ℕ) → (default number : ℤ) → Type 0
IsWholeAt members key default number =
    ((get_member key members ≡ None) × (number ≡ default)) ⊎ (get_member key members ≡ Some (integer number))

-- the truth value of a key that may be missing, else false
abbrev pub IsTruthAt : Members → (key : List ℕ) → (truth : Bool) → Type 0
IsTruthAt members key truth =
    ((get_member key members ≡ None) × (truth ≡ false)) ⊎ (get_member key members ≡ Some (boolean truth))

-- the salt of a key: "default-hash-seed" where it doesn't stand there or is empty, else the text there
abbrev pub IsSaltAt : Members → (key salt : List ℕ) → Type 0
IsSaltAt members key salt =
    ((get_member key members ≡ None) × (salt ≡ codes "default-hash-seed"))
    ⊎ (((get_member key members ≡ Some (string [])) × (salt ≡ codes "default-hash-seed"))
    ⊎ (get_member key members ≡ Some (string salt)))

-- the percentage at a required key, in ten-thousandths of a percent: a whole number from 0 to 100, or a float, which is
-- the one nearest to that number
abbrev pub IsPercentage : Members → (key : List ℕ) → (ten_thousandths : ℕ) → Type 0
IsPercentage members key ten_thousandths =
    ((whole : ℕ) × (get_member key members ≡ Some (integer (pos whole))) × (whole ≤ 100) × (ten_thousandths ≡ whole * 10000))
    ⊎ ((number : Float) × (get_member key members ≡ Some (float number)) × (ten_thousandths ≤ 1000000) × (eq (over_ten_thousand ten_thousandths) number ≡ true))

-- the texts of an array, one for each item
abbrev pub AreTexts : Items → List (List ℕ) → Type 0
AreTexts no_items texts = texts ≡ []
AreTexts (item value rest) [] = ⊥
AreTexts (item value rest) (text ∷ texts) = (value ≡ string text) × AreTexts rest texts

-- the texts of the array at a key that may be missing, else none
abbrev pub AreTextsAt : Members → (key : List ℕ) → List (List ℕ) → Type 0
AreTextsAt members key texts =
    ((get_member key members ≡ None) × (texts ≡ []))
    ⊎ ((items : Items) × (get_member key members ≡ Some (array items)) × AreTexts items texts)

-- what an error of a condition does: the next one is asked, where its key doesn't stand there; else what the text there names
abbrev pub IsErrorModeAt : Members → ErrorMode → Type 0
IsErrorModeAt members mode =
    ((get_member (codes "error_mode") members ≡ None) × (mode ≡ mode_is.Ignore))
    ⊎ (((get_member (codes "error_mode") members ≡ Some (string (codes "ignore"))) × (mode ≡ mode_is.Ignore))
    ⊎ (((get_member (codes "error_mode") members ≡ Some (string (codes "silent"))) × (mode ≡ mode_is.Silent))
    ⊎ ((get_member (codes "error_mode") members ≡ Some (string (codes "propagate"))) × (mode ≡ mode_is.Propagate))))

-- the status code that a text names (trace.proto v1, Status.StatusCode)
abbrev pub IsCode : Data → ℤ → Type 0
IsCode value code =
    ((value ≡ string (codes "UNSET")) × (code ≡ pos 0))
    ⊎ (((value ≡ string (codes "OK")) × (code ≡ pos 1))
    ⊎ ((value ≡ string (codes "ERROR")) × (code ≡ pos 2)))

-- the status codes of an array, one for each item
abbrev pub AreCodes : Items → List ℤ → Type 0
AreCodes no_items numbers = numbers ≡ []
AreCodes (item value rest) [] = ⊥
AreCodes (item value rest) (number ∷ numbers) = IsCode value number × AreCodes rest numbers

-- ---- one policy

-- the table is one of this type, and its settings are the table at the key of that name
pub record IsTyped (members : Members) (name : List ℕ) (settings : Members) : Type 0 where
  pub typed : IsText members (codes "type") name
  pub at_name : get_member name members ≡ Some (table settings)

-- what the value of an attribute is to be, by the settings of a policy, and the type of policy that wants it
abbrev pub IsWanted : (settings : Members) → Wanted → (name : List ℕ) → Type 0
IsWanted settings (StringAmong values) name =
    (name ≡ codes "string_attribute") × IsTruthAt settings (codes "enabled_regex_matching") false
    × ((items : Items) × (get_member (codes "values") settings ≡ Some (array items)) × AreTexts items values)
IsWanted settings (StringMatching values) name =
    (name ≡ codes "string_attribute") × (get_member (codes "enabled_regex_matching") settings ≡ Some (boolean true))
    × ((items : Items) × (get_member (codes "values") settings ≡ Some (array items)) × AreTexts items values)
IsWanted settings (NumberWithin least greatest) name =
    (name ≡ codes "numeric_attribute")
    × IsWholeAt settings (codes "min_value") (negsuc 9223372036854775807) least
    × IsWholeAt settings (codes "max_value") (pos 9223372036854775807) greatest
IsWanted settings (Boolean truth) name = (name ≡ codes "boolean_attribute") × (get_member (codes "value") settings ≡ Some (boolean truth))

-- the settings of an attribute policy
pub record IsAttribute (members : Members) (key : List ℕ) (wanted : Wanted) (inverted : Bool) : Type 0 where
  pub name : List ℕ
  pub settings : Members
  pub typed : IsTyped members name settings
  pub at_key : IsText settings (codes "key") key
  pub at_wanted : IsWanted settings wanted name
  pub at_invert : IsTruthAt settings (codes "invert_match") inverted

-- what a leaf samples, by the keys of its table
abbrev pub IsLeaf : Members → Leaf → Type 0
IsLeaf members leaf_is.AlwaysSample = IsText members (codes "type") (codes "always_sample")
IsLeaf members (leaf_is.Latency threshold upper) =
    (settings : Members) × IsTyped members (codes "latency") settings × IsNatural settings (codes "threshold_ms") threshold
    × IsNaturalOrZero settings (codes "upper_threshold_ms") upper
IsLeaf members (leaf_is.StatusCode numbers) =
    (settings : Members) × IsTyped members (codes "status_code") settings
    × ((items : Items) × (get_member (codes "status_codes") settings ≡ Some (array items)) × AreCodes items numbers)
IsLeaf members (leaf_is.Attribute key wanted inverted) = IsAttribute members key wanted inverted
IsLeaf members (leaf_is.SpanCount least most) =
    (settings : Members) × IsTyped members (codes "span_count") settings × IsNatural settings (codes "min_spans") least
    × IsNaturalOrZero settings (codes "max_spans") most
IsLeaf members (leaf_is.Probabilistic salt ten_thousandths) =
    (settings : Members) × IsTyped members (codes "probabilistic") settings × IsSaltAt settings (codes "hash_salt") salt
    × IsPercentage settings (codes "sampling_percentage") ten_thousandths
IsLeaf members (leaf_is.TraceState key values) =
    (settings : Members) × IsTyped members (codes "trace_state") settings × IsText settings (codes "key") key
    × ((items : Items) × (get_member (codes "values") settings ≡ Some (array items)) × AreTexts items values)
IsLeaf members (leaf_is.OttlCondition mode on_span on_event) =
    (settings : Members) × IsTyped members (codes "ottl_condition") settings × IsErrorModeAt settings mode
    × AreTextsAt settings (codes "span") on_span × AreTextsAt settings (codes "spanevent") on_event
IsLeaf members leaf_is.TraceFlags = IsText members (codes "type") (codes "trace_flags")

-- the policies that are joined are as many as the items of an array, and of a `not` there is one
abbrev pub ArePartsAt : Join → Option Data → (parts : List Policy) → Type 0
ArePartsAt join_is.Not at parts = (value : Data) × (at ≡ Some value) × (length parts ≡ 1)
ArePartsAt _ at parts = (items : Items) × (at ≡ Some (array items)) × (length parts ≡ count_items items)

-- the parts of a composite are as many as the items of an array, and are asked in the order that names each of them once,
-- if there is one, else as they stand there; each stands within its share of the total
pub record IsComposite (members : Members) (parts : List Policy) : Type 0 where
  pub settings : Members
  pub typed : IsTyped members (codes "composite") settings
  pub given : List Policy
  pub at_parts : ArePartsAt join_is.FirstMatch (get_member (codes "composite_sub_policy") settings) given
  pub at_order : is_ordered (get_member (codes "policy_order") settings) (get_member (codes "composite_sub_policy") settings) ≡ true
  pub total : ℕ
  pub at_total : IsNatural settings (codes "max_total_spans_per_second") total
  pub as_many : length parts ≡ length given
  pub are : parts ≡ map (within_share total (length given) (items_at (get_member (codes "rate_allocation") settings))) (ordered (get_member (codes "policy_order") settings) given)

-- what a policy samples, by the keys of its table
abbrev pub IsLayer : Members → PolicyKind-F PolicyKind Policy → Type 0
IsLayer members (PolicyKind-F.Leaf leaf) = IsLeaf members leaf
IsLayer members (PolicyKind-F.Limiting (Spans per_second)) =
    (settings : Members) × IsTyped members (codes "rate_limiting") settings × IsNatural settings (codes "spans_per_second") per_second
IsLayer members (PolicyKind-F.Limiting (Bytes per_second burst)) =
    (settings : Members) × IsTyped members (codes "bytes_limiting") settings × IsNatural settings (codes "bytes_per_second") per_second
    × IsNumberAt settings (codes "burst_capacity") (min (per_second * 2) 9223372036854775807) 0 9223372036854775807 burst
IsLayer members (PolicyKind-F.Joined join_is.FirstMatch parts) = IsComposite members parts
IsLayer members (PolicyKind-F.Joined join parts) =
    (settings : Members) × IsTyped members (join_name join) settings × ArePartsAt join (get_member (sub_key join) settings) parts

-- the same of a kind
abbrev pub IsKind : Members → PolicyKind → Type 0
IsKind members kind = IsLayer members (out-PolicyKind kind)

-- a policy of this table
pub record IsPolicy (members : Members) (policy : Policy) : Type 0 where
  pub name : IsText members (codes "name") policy.name
  pub kind : IsKind members policy.kind

-- ---- all policies, each by its place: the number of its item in `policies`, or further that of an item in the policies
-- that the one before is made of, as they are asked

-- the items of an array
abbrev pub items_of : Option Data → Items
items_of (Some (array items)) = items
items_of _ = no_items

-- the policy tables at their key: the items of an array, and of a `not` one
abbrev pub part_items : Join → Option Data → Items
part_items join_is.Not None = no_items
part_items join_is.Not (Some value) = item value no_items
part_items _ at = items_of at

-- the policy tables of the settings of a policy that is joined so, in the order in which they are asked
abbrev pub asked_items : Join → Members → Items
asked_items join_is.FirstMatch settings = ordered_items (get_member (codes "policy_order") settings) (part_items join_is.FirstMatch (get_member (codes "composite_sub_policy") settings))
asked_items join settings = part_items join (get_member (sub_key join) settings)

-- those of the value at the key of such settings
abbrev pub settings_items : Join → Option Data → Items
settings_items join (Some (table settings)) = asked_items join settings
settings_items join _ = no_items

-- those of a policy table, by its type
abbrev pub nested_items : Option Data → Items
nested_items (Some (table members)) = settings_items (join_at members) (get_member (join_name (join_at members)) members)
nested_items _ = no_items

-- the value at a place among these items, and further places among the nested ones
abbrev pub value_at : Items → (place : ℕ) → (deeper : List ℕ) → Option Data
value_at items place [] = get_item place items
value_at items place (next ∷ deeper) = value_at (nested_items (get_item place items)) next deeper

-- the first policy that this layer is made of, before others
abbrev pub first_in : PolicyKind-F PolicyKind Policy → List Policy → List Policy
first_in (PolicyKind-F.Joined join (first ∷ _)) rest = first ∷ rest
first_in _ rest = rest

-- the parts within their shares: each is the first policy that its share is made of
abbrev pub unshared : List Policy → List Policy
unshared [] = []
unshared (share ∷ rest) = first_in (out-PolicyKind share.kind) (unshared rest)

-- the policies inside a policy; of a composite those within its shares
abbrev pub parts_in : PolicyKind-F PolicyKind Policy → List Policy
parts_in (PolicyKind-F.Joined join_is.FirstMatch parts) = unshared parts
parts_in (PolicyKind-F.Joined join parts) = parts
parts_in _ = []

-- the same of a kind
abbrev pub parts_of : PolicyKind → List Policy
parts_of kind = parts_in (out-PolicyKind kind)

abbrev pub parts_at : Option Policy → List Policy
parts_at None = []
parts_at (Some policy) = parts_of policy.kind

-- the policy at a place of this list, and further places among those inside
abbrev pub policy_at : List Policy → (place : ℕ) → (deeper : List ℕ) → Option Policy
policy_at policies place [] = slice_get policies place
policy_at policies place (next ∷ deeper) = policy_at (parts_at (slice_get policies place)) next deeper

-- the policies are as many as the items at their key, and each, however deep, is of the table at its place
pub record HasPolicies (members : Members) (policies : List Policy) : Type 0 where
  pub as_many : length policies ≡ count_items (items_of (get_member (codes "policies") members))
  pub each : (place : ℕ) (deeper : List ℕ) (policy : Policy) → policy_at policies place deeper ≡ Some policy
      → (of : Members) × (value_at (items_of (get_member (codes "policies") members)) place deeper ≡ Some (table of)) × IsPolicy of policy

-- the policies are those of their key, or with `sample_on_first_match` the one that is made of them
pub record HasMatched (members : Members) (policies : List Policy) : Type 0 where
  pub is_first : Bool
  pub at_key : IsTruthAt members (codes "sample_on_first_match") is_first
  pub given : List Policy
  pub has : HasPolicies members given
  pub are : policies ≡ matched is_first given

-- a text that is read as a configuration is a document with these policies
abbrev pub ReadsPolicies : Type 0
ReadsPolicies = (text : List ℕ) (config : Config) → reading text ≡ Ok config
    → (members : Members) × (parse_document text ≡ Some members) × HasMatched members config.policies
