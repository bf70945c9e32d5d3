-- The walk answers the least of the faults that the table has.
-- For the contract of `answers_least_fault`.
use Rattle.std.proofs.Common.{◌≡◌, ℕ, ◌≤◌, Bool, true, false, ◌⊎◌, inl, inr, refl, ap, arith, codes, List, [], ◌∷◌, Option, None, Some, if◌then◌else◌, nat_lt}
use Rattle.std.proofs.lemmas.Bool.Decides.{nat_tests}
use Rattle.std.specs.Str.{bytes_eq}
use Rattle.toml.specs.Data.{Data, array, table, Items, no_items, item, Members, no_members, member, get_member}
use Rattle.policy_tree.specs.declared.policy.Join.{Join}
use Rattle.policy_tree.specs.declared.policy.Join.TheVariants as join_is
use Rattle.config_faults.specs.Tables.{top_settings, cache_settings, export_settings, ledger_settings}
use Rattle.config_faults.specs.PolicyTypes.{type_name, settings}
use Rattle.config_faults.specs.Keys.{type_at, join_type, join_name, sub_key, join_at}
use Rattle.config_faults.specs.Faults.{config_fault_number, least, optional, required, unknown_fault, text_fault, type_fault, items_fault, array_fault, item_fault, wanted_fault, each_setting_fault, order_fault, twice_fault}
use Rattle.config_faults.specs.Faults as spec
use Rattle.tsc_config.specs.FaultSets.{IsLeastOf, OptionalHas, RequiredHas, SomeItemHas, ArrayHas, ValueHas, KeyHas, SomeSettingHas, TableHas, RowsHave, SettingsHave, SettingsAtHave, TypedHas, PolicyTableHas, PoliciesHave, SomePolicyHas, PolicyHas, PartsHave, PartsSettingsHave, SubPoliciesHave, SubValueHas, CacheHas, ExportHas, LedgerHas, HasFault}
use Rattle.config_faults.specs.Setting.{Setting}
use Rattle.config_faults.specs.declared.settings.ValueKind.{ValueKind}
use Rattle.config_faults.specs.declared.settings.ValueKind.TheVariants as value_is
use Rattle.config_faults.specs.declared.fault.ConfigFault.{ConfigFault}
use Rattle.config_faults.specs.declared.policy_types.PolicyType.{PolicyType}
use Rattle.config_faults.specs.declared.policy_types.PolicyType.TheVariants as type_is
use Rattle.config_faults.specs.declared.keys.TableKind.{TableKind}
use Rattle.config_faults.specs.declared.keys.TableKind.TheVariants as table_is
use Rattle.config_faults.specs.declared.fault.ConfigFault.TheVariants.{MissingKey, WrongType}

-- one of the two
pub least_is_one : (a b : Option ConfigFault) (fault : ConfigFault) → least a b ≡ Some fault → (a ≡ Some fault) ⊎ (b ≡ Some fault)
least_is_one None b fault e = inr e
least_is_one (Some x) None fault e = inl e
least_is_one (Some x) (Some y) fault e = grind (arith, nat_tests)

pick_first : (a b : ConfigFault) (r : Bool) → nat_lt (config_fault_number b) (config_fault_number a) ≡ r → (found : ConfigFault) × ((if r then Some b else Some a) ≡ Some found) × (config_fault_number found ≤ config_fault_number a)
pick_first a b true e = (b, refl, grind (arith, nat_tests))
pick_first a b false e = (a, refl, omega arith)

pick_second : (a b : ConfigFault) (r : Bool) → nat_lt (config_fault_number b) (config_fault_number a) ≡ r → (found : ConfigFault) × ((if r then Some b else Some a) ≡ Some found) × (config_fault_number found ≤ config_fault_number b)
pick_second a b true e = (b, refl, omega arith)
pick_second a b false e = (a, refl, grind (arith, nat_tests))

-- no greater than the first
least_first : (a : ConfigFault) (b : Option ConfigFault) → (found : ConfigFault) × (least (Some a) b ≡ Some found) × (config_fault_number found ≤ config_fault_number a)
least_first a None = (a, refl, omega arith)
least_first a (Some b) = pick_first a b (nat_lt (config_fault_number b) (config_fault_number a)) refl

-- no greater than the second
least_second : (a : Option ConfigFault) (b : ConfigFault) → (found : ConfigFault) × (least a (Some b) ≡ Some found) × (config_fault_number found ≤ config_fault_number b)
least_second None b = (b, refl, omega arith)
least_second (Some a) b = pick_second a b (nat_lt (config_fault_number b) (config_fault_number a)) refl

below_first : (a b : Option ConfigFault) (n : ℕ) → (found : ConfigFault) × (a ≡ Some found) × (config_fault_number found ≤ n) → (found : ConfigFault) × (least a b ≡ Some found) × (config_fault_number found ≤ n)
below_first a b n (x, e, h) =
    let f : (found : ConfigFault) × (least (Some x) b ≡ Some found) × (config_fault_number found ≤ config_fault_number x) = least_first x b in
    rw e (f.0, f.1, omega (arith, f.2, h))

below_second : (a b : Option ConfigFault) (n : ℕ) → (found : ConfigFault) × (b ≡ Some found) × (config_fault_number found ≤ n) → (found : ConfigFault) × (least a b ≡ Some found) × (config_fault_number found ≤ n)
below_second a b n (y, e, h) =
    let f : (found : ConfigFault) × (least a (Some y) ≡ Some found) × (config_fault_number found ≤ config_fault_number y) = least_second a y in
    rw e (f.0, f.1, omega (arith, f.2, h))

-- the least of two sets is the least of both
both : (P Q : ConfigFault → Type 0) (a b : Option ConfigFault) → IsLeastOf P a → IsLeastOf Q b → IsLeastOf (λ fault. P fault ⊎ Q fault) (least a b)
both P Q a b p q = record { is_one = λ fault e. one fault (least_is_one a b fault e); is_least = no_lesser }
  where
    one : (fault : ConfigFault) → (a ≡ Some fault) ⊎ (b ≡ Some fault) → P fault ⊎ Q fault
    one fault (inl e) = inl (p.is_one fault e)
    one fault (inr e) = inr (q.is_one fault e)

    no_lesser : (fault : ConfigFault) → P fault ⊎ Q fault → (found : ConfigFault) × (least a b ≡ Some found) × (config_fault_number found ≤ config_fault_number fault)
    no_lesser fault (inl h) = below_first a b (config_fault_number fault) (p.is_least fault h)
    no_lesser fault (inr h) = below_second a b (config_fault_number fault) (q.is_least fault h)

-- a row with one fault at most
row : (a : Option ConfigFault) → IsLeastOf (λ fault. a ≡ Some fault) a
row a = record { is_one = λ fault e. e; is_least = λ fault e. (fault, e, omega arith) }

-- one fault alone
pub alone : (found : ConfigFault) → IsLeastOf (λ fault. fault ≡ found) (Some found)
alone found = record { is_one = λ fault e. cc; is_least = λ fault e. (found, refl, omega (arith, ap config_fault_number e)) }

-- no fault
none : IsLeastOf (λ fault. ⊥) None
none = record { is_one = λ fault e. cc; is_least = λ fault h. elim h [ ] }

-- of the same set, said otherwise
pub as_well : (P Q : ConfigFault → Type 0) (a : Option ConfigFault) → ((fault : ConfigFault) → P fault → Q fault) → ((fault : ConfigFault) → Q fault → P fault) → IsLeastOf P a → IsLeastOf Q a
as_well P Q a there back p = record { is_one = λ fault e. there fault (p.is_one fault e); is_least = λ fault h. p.is_least fault (back fault h) }

-- of a value that is looked at only where a key has this value
branch : (P Q : ConfigFault → Type 0) (r : Bool) (a b : Option ConfigFault) → IsLeastOf P a → IsLeastOf Q b
    → IsLeastOf (λ fault. ((r ≡ true) × P fault) ⊎ ((r ≡ false) × Q fault)) (if r then a else b)
branch P Q true a b p q = as_well P _ a (λ fault h. inl (refl, h)) taken p
  where
    taken : (fault : ConfigFault) → ((true ≡ true) × P fault) ⊎ ((true ≡ false) × Q fault) → P fault
    taken fault (inl (e, h)) = h
    taken fault (inr (e, h)) = cc
branch P Q false a b p q = as_well Q _ b (λ fault h. inr (refl, h)) taken q
  where
    taken : (fault : ConfigFault) → ((false ≡ true) × P fault) ⊎ ((false ≡ false) × Q fault) → Q fault
    taken fault (inl (e, h)) = cc
    taken fault (inr (e, h)) = h

optional_least : (Has : Data → ConfigFault → Type 0) (f : Data → Option ConfigFault) → ((value : Data) → IsLeastOf (Has value) (f value)) → (at : Option Data) → IsLeastOf (OptionalHas Has at) (optional f at)
optional_least Has f each None = none
optional_least Has f each (Some value) = each value

required_least : (Has : Data → ConfigFault → Type 0) (f : Data → Option ConfigFault) → ((value : Data) → IsLeastOf (Has value) (f value)) → (at : Option Data) → IsLeastOf (RequiredHas Has at) (required f at)
required_least Has f each None = alone MissingKey
required_least Has f each (Some value) = each value

items_least : (f : Data → Option ConfigFault) (items : Items) → IsLeastOf (SomeItemHas f items) (items_fault f items)
items_least f no_items = none
items_least f (item value rest) = both (λ fault. f value ≡ Some fault) (SomeItemHas f rest) _ _ (row (f value)) (items_least f rest)

array_least : (f : Data → Option ConfigFault) (value : Data) → IsLeastOf (ArrayHas f value) (array_fault f value)
array_least f (array items) = items_least f items
array_least f _ = alone WrongType

-- two rows with one fault at most each
rows : (a b : Option ConfigFault) → IsLeastOf (λ fault. (a ≡ Some fault) ⊎ (b ≡ Some fault)) (least a b)
rows a b = both (λ fault. a ≡ Some fault) (λ fault. b ≡ Some fault) a b (row a) (row b)

value_least : (kind : ValueKind) (value : Data) → IsLeastOf (ValueHas kind value) (wanted_fault kind value)
value_least (value_is.Array kind) value = array_least (item_fault kind) value
value_least kind value = row (wanted_fault kind value)

key_least : (r : Bool) (kind : ValueKind) (at : Option Data) → IsLeastOf (KeyHas r kind at) (if r then required (wanted_fault kind) at else optional (wanted_fault kind) at)
key_least true kind at = required_least (ValueHas kind) (wanted_fault kind) (value_least kind) at
key_least false kind at = optional_least (ValueHas kind) (wanted_fault kind) (value_least kind) at

each_least : (rows : List Setting) (members : Members) → IsLeastOf (SomeSettingHas rows members) (each_setting_fault rows members)
each_least [] members = none
each_least (s ∷ rest) members =
    both (KeyHas s.is_required s.value (get_member s.name members)) (SomeSettingHas rest members) _ _ (key_least s.is_required s.value (get_member s.name members)) (each_least rest members)

table_of_least : (kind : TableKind) (rows : List Setting) (value : Data) → IsLeastOf (TableHas kind rows value) (spec.table_of_fault kind rows value)
table_of_least kind rows (table members) = both (λ fault. unknown_fault kind members ≡ Some fault) (SomeSettingHas rows members) _ _ (row _) (each_least rows members)
table_of_least kind rows _ = alone WrongType

settings_at_least : (kind : PolicyType) (members : Members) (Nested : ConfigFault → Type 0) (nested : Option ConfigFault) → IsLeastOf Nested nested → IsLeastOf (SettingsAtHave kind members Nested) (spec.settings_at_fault kind members nested)
settings_at_least type_is.AlwaysSample members Nested nested n = none
settings_at_least type_is.TraceFlags members Nested nested n = none
settings_at_least type_is.And members Nested nested n = n
settings_at_least type_is.Not members Nested nested n = n
settings_at_least type_is.Drop members Nested nested n = n
settings_at_least type_is.Composite members Nested nested n = n
settings_at_least kind members Nested nested n = required_least (SettingsHave kind) (spec.settings_fault kind) (table_of_least (table_is.Settings kind) (settings kind)) (get_member (type_name kind) members)

typed_least : (found : Option PolicyType) (members : Members) (Nested : ConfigFault → Type 0) (nested : Option ConfigFault) → IsLeastOf Nested nested → IsLeastOf (TypedHas found members Nested) (spec.typed_fault_where found members nested)
typed_least None members Nested nested n = none
typed_least (Some kind) members Nested nested n =
    both (λ fault. unknown_fault (table_is.Policy kind) members ≡ Some fault) (SettingsAtHave kind members Nested) _ _ (row _) (settings_at_least kind members Nested nested n)

policy_table_least : (members : Members) (Nested : ConfigFault → Type 0) (nested : Option ConfigFault) → IsLeastOf Nested nested → IsLeastOf (PolicyTableHas members Nested) (spec.policy_table_fault members nested)
unfolding spec.policy_table_fault
policy_table_least members Nested nested n =
    let name : Option ConfigFault = required text_fault (get_member (codes "name") members) in
    let kind : Option ConfigFault = required type_fault (get_member (codes "type") members) in
    both (λ fault. (name ≡ Some fault) ⊎ (kind ≡ Some fault)) (TypedHas (type_at members) members Nested) _ _
    (rows name kind) (typed_least (type_at members) members Nested nested n)

mutual
  policies_least : (value : Data) → IsLeastOf (PoliciesHave value) (spec.policies_fault value)
  policies_least (array items) = policy_items_least items
  policies_least _ = alone WrongType

  policy_items_least : (items : Items) → IsLeastOf (SomePolicyHas items) (spec.policy_items_fault items)
  policy_items_least no_items = none
  policy_items_least (item value rest) = both (PolicyHas value) (SomePolicyHas rest) _ _ (policy_least value) (policy_items_least rest)

  policy_least : (value : Data) → IsLeastOf (PolicyHas value) (spec.policy_fault value)
  policy_least (table members) =
      policy_table_least members (PartsHave (join_at members) members) (spec.parts_fault (join_at members) members) (parts_least (join_at members) members)
  policy_least _ = alone WrongType

  parts_least : (join : Join) (members : Members) → IsLeastOf (PartsHave join members) (spec.parts_fault join members)
  parts_least join no_members = alone MissingKey
  parts_least join (member key value rest) =
      branch (PartsSettingsHave join value) (PartsHave join rest) (bytes_eq key (join_name join)) _ _ (parts_settings_least join value) (parts_least join rest)

  parts_settings_least : (join : Join) (value : Data) → IsLeastOf (PartsSettingsHave join value) (spec.parts_settings_fault join value)
  parts_settings_least join (table members) =
      both (λ fault. unknown_fault (table_is.Settings (join_type join)) members ≡ Some fault)
      (λ fault. RowsHave (join_type join) members fault ⊎ ((order_fault join members ≡ Some fault) ⊎ SubPoliciesHave join members fault)) _ _ (row _)
      (both (RowsHave (join_type join) members) (λ fault. (order_fault join members ≡ Some fault) ⊎ SubPoliciesHave join members fault) _ _ (each_least (settings (join_type join)) members)
      (both (λ fault. order_fault join members ≡ Some fault) (SubPoliciesHave join members) _ _ (row _) (sub_policies_least join members)))
  parts_settings_least join _ = alone WrongType

  sub_policies_least : (join : Join) (members : Members) → IsLeastOf (SubPoliciesHave join members) (spec.sub_policies_fault join members)
  sub_policies_least join no_members = alone MissingKey
  sub_policies_least join (member key value rest) =
      branch (SubValueHas join value) (SubPoliciesHave join rest) (bytes_eq key (sub_key join)) _ _ (sub_value_least join value) (sub_policies_least join rest)

  sub_value_least : (join : Join) (value : Data) → IsLeastOf (SubValueHas join value) (spec.sub_value_fault join value)
  sub_value_least join_is.And (array items) = policy_items_least items
  sub_value_least join_is.Not (table members) =
      policy_table_least members (PartsHave (join_at members) members) (spec.parts_fault (join_at members) members) (parts_least (join_at members) members)
  sub_value_least join_is.Drop (array items) = policy_items_least items
  sub_value_least join_is.FirstMatch (array items) = policy_items_least items
  sub_value_least _ _ = alone WrongType

pub table_least : (members : Members) → IsLeastOf (HasFault members) (spec.table_fault members)
unfolding spec.table_fault spec.keys_fault
table_least members =
    let cache : IsLeastOf (OptionalHas CacheHas (get_member (codes "decision_cache") members)) (optional spec.cache_fault (get_member (codes "decision_cache") members)) =
    optional_least CacheHas spec.cache_fault (table_of_least table_is.DecisionCache cache_settings) (get_member (codes "decision_cache") members) in
    let export : IsLeastOf (OptionalHas ExportHas (get_member (codes "export") members)) (optional spec.export_fault (get_member (codes "export") members)) =
    optional_least ExportHas spec.export_fault (table_of_least table_is.Export export_settings) (get_member (codes "export") members) in
    let ledger : IsLeastOf (OptionalHas LedgerHas (get_member (codes "ledger") members)) (optional spec.ledger_fault (get_member (codes "ledger") members)) =
    optional_least LedgerHas spec.ledger_fault (table_of_least table_is.Ledger ledger_settings) (get_member (codes "ledger") members) in
    let policies : IsLeastOf (RequiredHas PoliciesHave (get_member (codes "policies") members)) (required spec.policies_fault (get_member (codes "policies") members)) =
    required_least PoliciesHave spec.policies_fault policies_least (get_member (codes "policies") members) in
    both (λ fault. (unknown_fault table_is.Config members ≡ Some fault) ⊎ (twice_fault members ≡ Some fault)) _ _ _ (rows _ _)
    (both (SomeSettingHas top_settings members) _ _ _ (each_least top_settings members)
    (both (OptionalHas CacheHas (get_member (codes "decision_cache") members)) _ _ _ cache
    (both (OptionalHas ExportHas (get_member (codes "export") members)) _ _ _ export
    (both (OptionalHas LedgerHas (get_member (codes "ledger") members)) (RequiredHas PoliciesHave (get_member (codes "policies") members)) _ _ ledger policies))))
