-- The faults of a configuration as a set: each row may have one, and the least of all is answered.
use Rattle.std.specs.Prelude.{◌≡◌, ◌≢◌, ℕ, ◌<◌, ◌≤◌, Bool, true, false, List, [], ◌∷◌, ◌⊎◌, codes, Option, None, Some, Result, Ok, Err}
use Rattle.std.specs.List.{Contains}
use Rattle.std.specs.Str.{bytes_eq}
use Rattle.toml.specs.Data.{Data, array, table, Items, no_items, item, Members, no_members, member, get_member}
use Rattle.toml.specs.Parse.{parse_document}
use Rattle.policy_tree.specs.declared.expressions.PolicyExpression.{PolicyExpression}
use Rattle.policy_tree.specs.Faults.{fault_of_policies}
use Rattle.policy_tree.specs.declared.fault.PolicyFault.{PolicyFault}
use Rattle.policy_tree.specs.declared.policy.Join.{Join}
use Rattle.policy_tree.specs.declared.policy.Join.TheVariants as join_is
use Rattle.config_faults.specs.Tables.{top_settings, cache_settings, export_settings, ledger_settings}
use Rattle.config_faults.specs.PolicyTypes.{type_name, settings}
use Rattle.config_faults.specs.Keys.{type_at, join_type, join_name, sub_key, join_at}
use Rattle.config_faults.specs.Faults.{config_fault_number, required, unknown_fault, text_fault, type_fault, item_fault, wanted_fault, order_fault, twice_fault}
use Rattle.config_faults.specs.Setting.{Setting}
use Rattle.config_faults.specs.declared.settings.ValueKind.{ValueKind}
use Rattle.config_faults.specs.declared.settings.ValueKind.TheVariants as value_is
use Rattle.tsc_config.specs.Reading.{is_one, expressions_among}
use Rattle.tsc_config.specs.Values.{config_of}
use Rattle.tsc_config.specs.declared.config.Config.{Config}
use Rattle.config_faults.specs.declared.fault.ConfigFault.{ConfigFault}
use Rattle.config_faults.specs.declared.fault.ConfigFault.TheVariants.{NotToml, MissingKey, WrongType, TooFewTraces, Policy, NotAnExpression}
use Rattle.config_faults.specs.declared.policy_types.PolicyType.{PolicyType}
use Rattle.config_faults.specs.declared.policy_types.PolicyType.TheVariants as type_is
use Rattle.config_faults.specs.declared.keys.TableKind.{TableKind}
use Rattle.config_faults.specs.declared.keys.TableKind.TheVariants as table_is

-- the answer is a fault of the set, with no lesser one; and None only of a set with no fault
abbrev pub IsLeastOf : (Has : ConfigFault → Type 0) → (answer : Option ConfigFault) → Type 0
IsLeastOf Has answer = record {
  is_one : (fault : ConfigFault) → answer ≡ Some fault → Has fault;
  is_least : (fault : ConfigFault) → Has fault → (found : ConfigFault) × (answer ≡ Some found) × (config_fault_number found ≤ config_fault_number fault);
}

-- what stands at a key that may be missing has this fault
abbrev pub OptionalHas : (Has : Data → ConfigFault → Type 0) → Option Data → ConfigFault → Type 0
OptionalHas Has None fault = ⊥
OptionalHas Has (Some value) fault = Has value fault

-- what stands at a required key has this fault
abbrev pub RequiredHas : (Has : Data → ConfigFault → Type 0) → Option Data → ConfigFault → Type 0
RequiredHas Has None fault = fault ≡ MissingKey
RequiredHas Has (Some value) fault = Has value fault

-- some item has this fault
abbrev pub SomeItemHas : (fault_of : Data → Option ConfigFault) → Items → ConfigFault → Type 0
SomeItemHas fault_of no_items fault = ⊥
SomeItemHas fault_of (item value rest) fault = (fault_of value ≡ Some fault) ⊎ SomeItemHas fault_of rest fault

-- the value is no array, or some item has this fault
abbrev pub ArrayHas : (fault_of : Data → Option ConfigFault) → Data → ConfigFault → Type 0
ArrayHas fault_of (array items) fault = SomeItemHas fault_of items fault
ArrayHas fault_of _ fault = fault ≡ WrongType

-- a value of this kind has this fault
abbrev pub ValueHas : ValueKind → Data → ConfigFault → Type 0
ValueHas (value_is.Array kind) value fault = ArrayHas (item_fault kind) value fault
ValueHas kind value fault = wanted_fault kind value ≡ Some fault

-- what stands at a key, which is required or may be missing, has this fault
abbrev pub KeyHas : (is_required : Bool) → ValueKind → Option Data → ConfigFault → Type 0
KeyHas true kind at fault = RequiredHas (ValueHas kind) at fault
KeyHas false kind at fault = OptionalHas (ValueHas kind) at fault

-- one of these settings has this fault
abbrev pub SomeSettingHas : List Setting → Members → ConfigFault → Type 0
SomeSettingHas [] given fault = ⊥
SomeSettingHas (s ∷ rest) given fault = KeyHas s.is_required s.value (get_member s.name given) fault ⊎ SomeSettingHas rest given fault

-- some row of the settings of a policy of this type, but for the policies that it is made of, has this fault
abbrev pub RowsHave : PolicyType → Members → ConfigFault → Type 0
RowsHave kind members fault = SomeSettingHas (settings kind) members fault

-- a table of this kind with these settings has this fault
abbrev pub TableHas : TableKind → List Setting → Data → ConfigFault → Type 0
TableHas kind rows (table members) fault = (unknown_fault kind members ≡ Some fault) ⊎ SomeSettingHas rows members fault
TableHas kind rows _ fault = fault ≡ WrongType

-- the settings of a policy of this type have this fault
abbrev pub SettingsHave : PolicyType → Data → ConfigFault → Type 0
SettingsHave kind value fault = TableHas (table_is.Settings kind) (settings kind) value fault

-- the settings of a policy table of this type have this fault, where those of a type that is made of others have the
-- nested ones
abbrev pub SettingsAtHave : PolicyType → Members → (Nested : ConfigFault → Type 0) → ConfigFault → Type 0
SettingsAtHave type_is.AlwaysSample _ Nested fault = ⊥
SettingsAtHave type_is.TraceFlags _ Nested fault = ⊥
SettingsAtHave type_is.And _ Nested fault = Nested fault
SettingsAtHave type_is.Not _ Nested fault = Nested fault
SettingsAtHave type_is.Drop _ Nested fault = Nested fault
SettingsAtHave type_is.Composite _ Nested fault = Nested fault
SettingsAtHave kind members Nested fault = RequiredHas (SettingsHave kind) (get_member (type_name kind) members) fault

-- a policy table has this fault beside `name` and `type`: only where its type is known
abbrev pub TypedHas : Option PolicyType → Members → (Nested : ConfigFault → Type 0) → ConfigFault → Type 0
TypedHas None _ Nested fault = ⊥
TypedHas (Some kind) members Nested fault = (unknown_fault (table_is.Policy kind) members ≡ Some fault) ⊎ SettingsAtHave kind members Nested fault

-- a policy table has this fault
abbrev pub PolicyTableHas : Members → (Nested : ConfigFault → Type 0) → ConfigFault → Type 0
PolicyTableHas members Nested fault =
    ((required text_fault (get_member (codes "name") members) ≡ Some fault)
    ⊎ (required type_fault (get_member (codes "type") members) ≡ Some fault))
    ⊎ TypedHas (type_at members) members Nested fault

abbrev mutual
  -- the value is no array, or some policy in it has this fault
  pub PoliciesHave : Data → ConfigFault → Type 0
  PoliciesHave (array items) fault = SomePolicyHas items fault
  PoliciesHave _ fault = fault ≡ WrongType

  -- some policy has this fault
  pub SomePolicyHas : Items → ConfigFault → Type 0
  SomePolicyHas no_items fault = ⊥
  SomePolicyHas (item value rest) fault = PolicyHas value fault ⊎ SomePolicyHas rest fault

  -- a policy has this fault
  pub PolicyHas : Data → ConfigFault → Type 0
  PolicyHas (table members) fault = PolicyTableHas members (PartsHave (join_at members) members) fault
  PolicyHas _ fault = fault ≡ WrongType

  -- in a policy table the settings of a policy that is joined so have this fault
  pub PartsHave : Join → Members → ConfigFault → Type 0
  PartsHave join no_members fault = fault ≡ MissingKey
  PartsHave join (member key value rest) fault =
      ((bytes_eq key (join_name join) ≡ true) × PartsSettingsHave join value fault) ⊎ ((bytes_eq key (join_name join) ≡ false) × PartsHave join rest fault)

  -- the settings of such a policy have this fault
  pub PartsSettingsHave : Join → Data → ConfigFault → Type 0
  PartsSettingsHave join (table members) fault =
      (unknown_fault (table_is.Settings (join_type join)) members ≡ Some fault)
      ⊎ (RowsHave (join_type join) members fault ⊎ ((order_fault join members ≡ Some fault) ⊎ SubPoliciesHave join members fault))
  PartsSettingsHave join _ fault = fault ≡ WrongType

  -- the policies that are joined have this fault
  pub SubPoliciesHave : Join → Members → ConfigFault → Type 0
  SubPoliciesHave join no_members fault = fault ≡ MissingKey
  SubPoliciesHave join (member key value rest) fault =
      ((bytes_eq key (sub_key join) ≡ true) × SubValueHas join value fault) ⊎ ((bytes_eq key (sub_key join) ≡ false) × SubPoliciesHave join rest fault)

  -- the value of their key has: an array, or of a `not` one policy
  pub SubValueHas : Join → Data → ConfigFault → Type 0
  SubValueHas join_is.And (array items) fault = SomePolicyHas items fault
  SubValueHas join_is.Not (table members) fault = PolicyTableHas members (PartsHave (join_at members) members) fault
  SubValueHas join_is.Drop (array items) fault = SomePolicyHas items fault
  SubValueHas join_is.FirstMatch (array items) fault = SomePolicyHas items fault
  SubValueHas _ _ fault = fault ≡ WrongType

-- the table of the caches of decisions has this fault
abbrev pub CacheHas : Data → ConfigFault → Type 0
CacheHas value fault = TableHas table_is.DecisionCache cache_settings value fault

-- the table of `export` has this fault
abbrev pub ExportHas : Data → ConfigFault → Type 0
ExportHas value fault = TableHas table_is.Export export_settings value fault

-- the table of `ledger` has this fault
abbrev pub LedgerHas : Data → ConfigFault → Type 0
LedgerHas value fault = TableHas table_is.Ledger ledger_settings value fault

-- the table of a configuration has this fault
abbrev pub HasFault : Members → ConfigFault → Type 0
HasFault members fault =
    ((unknown_fault table_is.Config members ≡ Some fault) ⊎ (twice_fault members ≡ Some fault))
    ⊎ (SomeSettingHas top_settings members fault
    ⊎ (OptionalHas CacheHas (get_member (codes "decision_cache") members) fault
    ⊎ (OptionalHas ExportHas (get_member (codes "export") members) fault
    ⊎ (OptionalHas LedgerHas (get_member (codes "ledger") members) fault
    ⊎ RequiredHas PoliciesHave (get_member (codes "policies") members) fault))))

-- some text that is wanted to be a regular expression or a condition is none
abbrev pub SomeIsNone : List PolicyExpression → Type 0
SomeIsNone expressions = (e : PolicyExpression) × Contains expressions e × (is_one e ≡ false)

-- the text of a configuration with this table, if it is TOML, has this fault. Expressions are those of policies without
-- a fault of their own
abbrev pub DocumentHas : Option Members → ConfigFault → Type 0
DocumentHas None fault = fault ≡ NotToml
DocumentHas (Some members) fault =
    HasFault members fault
    ⊎ (((fault ≡ TooFewTraces) × ((config_of members).num_traces < (config_of members).shards))
    ⊎ (((of_policies : PolicyFault) × (fault_of_policies (config_of members).policies ≡ Some of_policies) × (fault ≡ Policy of_policies))
    ⊎ ((fault ≡ NotAnExpression) × (fault_of_policies (config_of members).policies ≡ None) × SomeIsNone (expressions_among (config_of members).policies))))

-- the text of a configuration has this fault
abbrev pub TextHas : List ℕ → ConfigFault → Type 0
TextHas text fault = DocumentHas (parse_document text) fault

-- `ExpressionTooBig` is in no set, since how much an expression takes isn't told by the text: it is answered only where
-- what the text is read as is a configuration, and its policies have an expression
abbrev pub MayBeTooBig : Result Config ConfigFault → Type 0
MayBeTooBig (Ok config) = expressions_among config.policies ≢ []
MayBeTooBig (Err fault) = ⊥
