-- The list of the faults of a text has each fault that the text has, and no other.
-- For the contract of `lists_each_fault`.
use Rattle.std.proofs.Common.{◌≡◌, ◌↔◌, ◌++◌, ℕ, zero, suc, ◌<◌, Bool, true, false, not, ◌||◌, ◌⊎◌, inl, inr, refl, sym, ap, subst, arith, append_assoc, append-nil, codes, List, [], ◌∷◌, Contains, Option, None, Some, Result, Ok, Err, IsOk, if◌then◌else◌, nat_lt}
use Rattle.std.proofs.lemmas.Bool.Decides.{nat_tests}
use Rattle.std.proofs.lemmas.List.Elements.{Contains-append_left, Contains-append_right, Contains-append_cases}
use Rattle.std.specs.Result.{result_err}
use Rattle.std.specs.Str.{bytes_eq}
use Rattle.toml.specs.Data.{Data, array, table, Items, no_items, item, Members, no_members, member, get_member}
use Rattle.toml.specs.Parse.{parse_document}
use Rattle.policy_tree.specs.declared.expressions.PolicyExpression.{PolicyExpression}
use Rattle.policy_tree.specs.Faults.{fault_of_policies}
use Rattle.policy_tree.specs.declared.fault.PolicyFault.{PolicyFault}
use Rattle.policy_tree.specs.declared.policy.Join.{Join}
use Rattle.policy_tree.specs.declared.policy.Join.TheVariants as join_is
use Rattle.config_faults.specs.Tables.{top_settings, cache_settings, export_settings, ledger_settings}
use Rattle.config_faults.specs.PolicyTypes.{type_name, settings}
use Rattle.config_faults.specs.Keys.{has_unknown_key, is_key, type_at, join_type, join_name, sub_key, join_at}
use Rattle.config_faults.specs.Faults.{required, unknown_fault, text_fault, type_fault, item_fault, wanted_fault, order_fault, twice_fault}
use Rattle.tsc_config.specs.FaultSets.{IsLeastOf, OptionalHas, RequiredHas, SomeItemHas, ValueHas, KeyHas, SomeSettingHas, TableHas, RowsHave, SettingsHave, SettingsAtHave, TypedHas, PolicyTableHas, PoliciesHave, SomePolicyHas, PolicyHas, PartsHave, PartsSettingsHave, SubPoliciesHave, SubValueHas, CacheHas, ExportHas, LedgerHas, HasFault, SomeIsNone, DocumentHas, TextHas}
use Rattle.config_findings.specs.FaultLists as spec
use Rattle.config_findings.specs.FaultLists.{ListsAll, listed, unknown_faults, items_faults, value_faults, optional_faults, required_faults, setting_faults, rows_faults, settings_faults, head_settings, is_joined, typed_faults, own_faults, policy_table_faults, table_faults, of_policies, expressions_faults, of_expressions, given_faults, document_faults, text_faults}
use Rattle.config_faults.specs.Setting.{Setting}
use Rattle.tsc_config.specs.Reading.{is_one, expressions_among, reading}
use Rattle.tsc_config.specs.Values.{config_of}
use Rattle.tsc_config.proofs.FaultSets.{as_well}
use Rattle.tsc_config.proofs.SomeIsNone.{none_of_none, first_or_later, at_first, later}
use Rattle.tsc_config.proofs.Whole.{text_least}
use Rattle.tsc_config.specs.declared.config.Config.{Config}
use Rattle.config_faults.specs.declared.fault.ConfigFault.{ConfigFault}
use Rattle.config_faults.specs.declared.fault.ConfigFault.TheVariants.{NotToml, UnknownKey, MissingKey, WrongType, TooFewTraces, Policy, NotAnExpression}
use Rattle.config_faults.specs.declared.policy_types.PolicyType.{PolicyType}
use Rattle.config_faults.specs.declared.policy_types.PolicyType.TheVariants as type_is
use Rattle.config_faults.specs.declared.keys.TableKind.{TableKind}
use Rattle.config_faults.specs.declared.keys.TableKind.TheVariants as table_is
use Rattle.config_faults.specs.declared.settings.ValueKind.{ValueKind}
use Rattle.config_faults.specs.declared.settings.ValueKind.TheVariants as value_is

-- ---- lists of one fault, of several sets

empty : (fault : ConfigFault) → Contains [] fault → ⊥
empty fault (k, h, e) = absurd (omega (arith, h))

none : ListsAll (λ fault. ⊥) []
none fault = (λ c. empty fault c, λ h. elim h [ ])

-- one fault alone
one : (found : ConfigFault) → ListsAll (λ fault. fault ≡ found) (found ∷ [])
one found fault = (there, λ e. (0, omega arith, sym e))
  where
    there : Contains (found ∷ []) fault → fault ≡ found
    there (zero, h, e) = sym e
    there (suc n, h, e) = absurd (omega (arith, h))

-- a row with one fault at most
row : (a : Option ConfigFault) → ListsAll (λ fault. a ≡ Some fault) (listed a)
row None fault = (λ c. absurd (empty fault c), λ e. cc)
row (Some found) fault = (λ c. ap Some (sym ((one found fault).0 c)), λ e. (one found fault).1 (cc e))

-- two lists have what either has
both : (P Q : ConfigFault → Type 0) (xs ys : List ConfigFault) → ListsAll P xs → ListsAll Q ys → ListsAll (λ fault. P fault ⊎ Q fault) (xs ++ ys)
both P Q xs ys p q fault = (λ c. there (Contains-append_cases xs ys fault c), back)
  where
    there : Contains xs fault ⊎ Contains ys fault → P fault ⊎ Q fault
    there (inl c) = inl ((p fault).0 c)
    there (inr c) = inr ((q fault).0 c)

    back : P fault ⊎ Q fault → Contains (xs ++ ys) fault
    back (inl h) = Contains-append_left xs ys fault ((p fault).1 h)
    back (inr h) = Contains-append_right xs ys fault ((q fault).1 h)

-- the same set, said otherwise
same : (P Q : ConfigFault → Type 0) (xs : List ConfigFault) → ((fault : ConfigFault) → P fault → Q fault) → ((fault : ConfigFault) → Q fault → P fault) → ListsAll P xs → ListsAll Q xs
same P Q xs there back p fault = (λ c. there fault ((p fault).0 c), λ h. (p fault).1 (back fault h))

-- the same list, written otherwise
written : (P : ConfigFault → Type 0) (xs ys : List ConfigFault) → xs ≡ ys → ListsAll P xs → ListsAll P ys
written P xs ys e p = subst (λ (zs : List ConfigFault). ListsAll P zs) e p

ended : (P : ConfigFault → Type 0) (xs : List ConfigFault) → ListsAll P xs → ListsAll P (xs ++ [])
ended P xs p = written P xs (xs ++ []) (sym (append-nil xs)) p

-- a value that is looked at only where a key has this value
branch : (P Q : ConfigFault → Type 0) (r : Bool) (xs ys : List ConfigFault) → ListsAll P xs → ListsAll Q ys
    → ListsAll (λ fault. ((r ≡ true) × P fault) ⊎ ((r ≡ false) × Q fault)) (if r then xs else ys)
branch P Q true xs ys p q = same P _ xs (λ fault h. inl (refl, h)) taken p
  where
    taken : (fault : ConfigFault) → ((true ≡ true) × P fault) ⊎ ((true ≡ false) × Q fault) → P fault
    taken fault (inl (e, h)) = h
    taken fault (inr (e, h)) = cc
branch P Q false xs ys p q = same Q _ ys (λ fault h. inr (refl, h)) taken q
  where
    taken : (fault : ConfigFault) → ((false ≡ true) × P fault) ⊎ ((false ≡ false) × Q fault) → Q fault
    taken fault (inl (e, h)) = cc
    taken fault (inr (e, h)) = h

-- ---- keys and values

unknown_is : (r : Bool) (fault : ConfigFault) → (if r then Some UnknownKey else None) ≡ Some fault → Some UnknownKey ≡ Some fault
unknown_is true fault e = e
unknown_is false fault e = cc

-- one key more
unknown_one : (kind : TableKind) (rest : Members) (r : Bool) → ListsAll (λ fault. unknown_fault kind rest ≡ Some fault) (unknown_faults kind rest)
    → ListsAll (λ fault. (if not r || has_unknown_key kind rest then Some UnknownKey else None) ≡ Some fault) (if r then unknown_faults kind rest else UnknownKey ∷ unknown_faults kind rest)
unknown_one kind rest true others = others
unknown_one kind rest false others =
    same (λ fault. (Some UnknownKey ≡ Some fault) ⊎ (unknown_fault kind rest ≡ Some fault)) (λ fault. Some UnknownKey ≡ Some fault) (UnknownKey ∷ unknown_faults kind rest) first (λ fault e. inl e)
    (both (λ fault. Some UnknownKey ≡ Some fault) (λ fault. unknown_fault kind rest ≡ Some fault) (listed (Some UnknownKey)) (unknown_faults kind rest) (row (Some UnknownKey)) others)
  where
    first : (fault : ConfigFault) → (Some UnknownKey ≡ Some fault) ⊎ (unknown_fault kind rest ≡ Some fault) → Some UnknownKey ≡ Some fault
    first fault (inl e) = e
    first fault (inr e) = unknown_is (has_unknown_key kind rest) fault e

unknown_all : (kind : TableKind) (members : Members) → ListsAll (λ fault. unknown_fault kind members ≡ Some fault) (unknown_faults kind members)
unknown_all kind no_members = row None
unknown_all kind (member key value rest) = unknown_one kind rest (is_key kind key) (unknown_all kind rest)

optional_all : (Has : Data → ConfigFault → Type 0) (f : Data → List ConfigFault) → ((value : Data) → ListsAll (Has value) (f value)) → (at : Option Data) → ListsAll (OptionalHas Has at) (optional_faults f at)
optional_all Has f each None = none
optional_all Has f each (Some value) = each value

required_all : (Has : Data → ConfigFault → Type 0) (f : Data → List ConfigFault) → ((value : Data) → ListsAll (Has value) (f value)) → (at : Option Data) → ListsAll (RequiredHas Has at) (required_faults f at)
required_all Has f each None = one MissingKey
required_all Has f each (Some value) = each value

items_all : (f : Data → Option ConfigFault) (items : Items) → ListsAll (SomeItemHas f items) (items_faults f items)
items_all f no_items = none
items_all f (item value rest) = both (λ fault. f value ≡ Some fault) (SomeItemHas f rest) _ _ (row (f value)) (items_all f rest)

value_all : (kind : ValueKind) (value : Data) → ListsAll (ValueHas kind value) (value_faults kind value)
value_all (value_is.Array kind) (array items) = items_all (item_fault kind) items
value_all (value_is.Array kind) _ = one WrongType
value_all kind value = row (wanted_fault kind value)

key_all : (r : Bool) (kind : ValueKind) (at : Option Data) → ListsAll (KeyHas r kind at) (if r then required_faults (value_faults kind) at else optional_faults (value_faults kind) at)
key_all true kind at = required_all (ValueHas kind) (value_faults kind) (value_all kind) at
key_all false kind at = optional_all (ValueHas kind) (value_faults kind) (value_all kind) at

rows_all : (rows : List Setting) (members : Members) → ListsAll (SomeSettingHas rows members) (rows_faults rows members)
rows_all [] members = none
rows_all (s ∷ rest) members =
    both (KeyHas s.is_required s.value (get_member s.name members)) (SomeSettingHas rest members) _ _ (key_all s.is_required s.value (get_member s.name members)) (rows_all rest members)

-- a required row whose value has one fault at most
single_required : (f : Data → Option ConfigFault) (at : Option Data) → ListsAll (λ fault. required f at ≡ Some fault) (required_faults (λ value. listed (f value)) at)
single_required f None = row (Some MissingKey)
single_required f (Some value) = row (f value)

-- ---- policies

table_of_all : (kind : TableKind) (rows : List Setting) (value : Data) → ListsAll (TableHas kind rows value) (settings_faults kind rows value)
table_of_all kind rows (table members) = both (λ fault. unknown_fault kind members ≡ Some fault) (SomeSettingHas rows members) _ _ (unknown_all kind members) (rows_all rows members)
table_of_all kind rows _ = one WrongType

-- a policy table beside `name` and `type`
typed_all : (found : Option PolicyType) (members : Members) (Nested : ConfigFault → Type 0) (nested : List ConfigFault) → ListsAll Nested nested
    → ListsAll (TypedHas found members Nested) (typed_faults found members ++ (if is_joined found then nested else []))
typed_all None members Nested nested n = none
typed_all (Some kind) members Nested nested n =
    let keys = unknown_faults (table_is.Policy kind) members in
    let own = own_faults kind members in
    let deeper : List ConfigFault = if is_joined (Some kind) then nested else [] in
    written (TypedHas (Some kind) members Nested) (keys ++ (own ++ deeper)) ((keys ++ own) ++ deeper) (sym (append_assoc keys own deeper))
    (both (λ fault. unknown_fault (table_is.Policy kind) members ≡ Some fault) (SettingsAtHave kind members Nested) keys (own ++ deeper) (unknown_all (table_is.Policy kind) members) (of kind))
  where
    of : (k : PolicyType) → ListsAll (SettingsAtHave k members Nested) (own_faults k members ++ (if is_joined (Some k) then nested else []))
    of type_is.AlwaysSample = none
    of type_is.TraceFlags = none
    of type_is.And = n
    of type_is.Not = n
    of type_is.Drop = n
    of type_is.Composite = n
    of k =
        ended (RequiredHas (SettingsHave k) (get_member (type_name k) members)) (required_faults (settings_faults (table_is.Settings k) (settings k)) (get_member (type_name k) members))
        (required_all (SettingsHave k) (settings_faults (table_is.Settings k) (settings k)) (table_of_all (table_is.Settings k) (settings k)) (get_member (type_name k) members))

head_all : (members : Members) → ListsAll (λ fault. (required text_fault (get_member (codes "name") members) ≡ Some fault) ⊎ (required type_fault (get_member (codes "type") members) ≡ Some fault)) (rows_faults head_settings members)
head_all members =
    let name = get_member (codes "name") members in
    let kind = get_member (codes "type") members in
    both (λ fault. required text_fault name ≡ Some fault) (λ fault. required type_fault kind ≡ Some fault) _ _ (single_required text_fault name)
    (ended (λ fault. required type_fault kind ≡ Some fault) _ (single_required type_fault kind))

policy_table_all : (members : Members) (Nested : ConfigFault → Type 0) (nested : List ConfigFault) → ListsAll Nested nested → ListsAll (PolicyTableHas members Nested) (policy_table_faults members nested)
policy_table_all members Nested nested n =
    let head = rows_faults head_settings members in
    let rest = typed_faults (type_at members) members in
    let deeper : List ConfigFault = if is_joined (type_at members) then nested else [] in
    written (PolicyTableHas members Nested) (head ++ (rest ++ deeper)) ((head ++ rest) ++ deeper) (sym (append_assoc head rest deeper))
    (both (λ fault. (required text_fault (get_member (codes "name") members) ≡ Some fault) ⊎ (required type_fault (get_member (codes "type") members) ≡ Some fault))
    (TypedHas (type_at members) members Nested) head (rest ++ deeper) (head_all members) (typed_all (type_at members) members Nested nested n))

mutual
  policies_all : (value : Data) → ListsAll (PoliciesHave value) (spec.policies_faults value)
  policies_all (array items) = policy_items_all items
  policies_all _ = one WrongType

  policy_items_all : (items : Items) → ListsAll (SomePolicyHas items) (spec.policy_items_faults items)
  policy_items_all no_items = none
  policy_items_all (item value rest) = both (PolicyHas value) (SomePolicyHas rest) _ _ (policy_all value) (policy_items_all rest)

  policy_all : (value : Data) → ListsAll (PolicyHas value) (spec.policy_faults value)
  policy_all (table members) =
      policy_table_all members (PartsHave (join_at members) members) (spec.parts_faults (join_at members) members) (parts_all (join_at members) members)
  policy_all _ = one WrongType

  parts_all : (join : Join) (members : Members) → ListsAll (PartsHave join members) (spec.parts_faults join members)
  parts_all join no_members = one MissingKey
  parts_all join (member key value rest) =
      branch (PartsSettingsHave join value) (PartsHave join rest) (bytes_eq key (join_name join)) _ _ (parts_settings_all join value) (parts_all join rest)

  parts_settings_all : (join : Join) (value : Data) → ListsAll (PartsSettingsHave join value) (spec.parts_settings_faults join value)
  parts_settings_all join (table members) =
      both (λ fault. unknown_fault (table_is.Settings (join_type join)) members ≡ Some fault)
      (λ fault. RowsHave (join_type join) members fault ⊎ ((order_fault join members ≡ Some fault) ⊎ SubPoliciesHave join members fault)) _ _ (unknown_all (table_is.Settings (join_type join)) members)
      (both (RowsHave (join_type join) members) (λ fault. (order_fault join members ≡ Some fault) ⊎ SubPoliciesHave join members fault) _ _ (rows_all (settings (join_type join)) members)
      (both (λ fault. order_fault join members ≡ Some fault) (SubPoliciesHave join members) _ _ (row (order_fault join members)) (sub_policies_all join members)))
  parts_settings_all join _ = one WrongType

  sub_policies_all : (join : Join) (members : Members) → ListsAll (SubPoliciesHave join members) (spec.sub_policies_faults join members)
  sub_policies_all join no_members = one MissingKey
  sub_policies_all join (member key value rest) =
      branch (SubValueHas join value) (SubPoliciesHave join rest) (bytes_eq key (sub_key join)) _ _ (sub_value_all join value) (sub_policies_all join rest)

  sub_value_all : (join : Join) (value : Data) → ListsAll (SubValueHas join value) (spec.sub_value_faults join value)
  sub_value_all join_is.And (array items) = policy_items_all items
  sub_value_all join_is.Not (table members) =
      policy_table_all members (PartsHave (join_at members) members) (spec.parts_faults (join_at members) members) (parts_all (join_at members) members)
  sub_value_all join_is.Drop (array items) = policy_items_all items
  sub_value_all join_is.FirstMatch (array items) = policy_items_all items
  sub_value_all _ _ = one WrongType

-- ---- the whole text

table_all : (members : Members) → ListsAll (HasFault members) (table_faults members)
table_all members =
    both (λ fault. (unknown_fault table_is.Config members ≡ Some fault) ⊎ (twice_fault members ≡ Some fault)) _ _ _
    (both (λ fault. unknown_fault table_is.Config members ≡ Some fault) (λ fault. twice_fault members ≡ Some fault) _ _ (unknown_all table_is.Config members) (row (twice_fault members)))
    (both (SomeSettingHas top_settings members) _ _ _ (rows_all top_settings members)
    (both (OptionalHas CacheHas (get_member (codes "decision_cache") members)) _ _ _
    (optional_all CacheHas (settings_faults table_is.DecisionCache cache_settings) (table_of_all table_is.DecisionCache cache_settings) (get_member (codes "decision_cache") members))
    (both (OptionalHas ExportHas (get_member (codes "export") members)) _ _ _
    (optional_all ExportHas (settings_faults table_is.Export export_settings) (table_of_all table_is.Export export_settings) (get_member (codes "export") members))
    (both (OptionalHas LedgerHas (get_member (codes "ledger") members)) (RequiredHas PoliciesHave (get_member (codes "policies") members)) _ _
    (optional_all LedgerHas (settings_faults table_is.Ledger ledger_settings) (table_of_all table_is.Ledger ledger_settings) (get_member (codes "ledger") members))
    (required_all PoliciesHave spec.policies_faults policies_all (get_member (codes "policies") members))))))

few_all : (few : Type 0) (r : Bool) → (r ≡ true → few) → (few → r ≡ true) → ListsAll (λ fault. (fault ≡ TooFewTraces) × few) (if r then TooFewTraces ∷ [] else [])
few_all few true to from fault = (λ c. ((one TooFewTraces fault).0 c, to refl), λ h. (one TooFewTraces fault).1 h.0)
few_all few false to from fault = (λ c. absurd (empty fault c), λ h. let wrong : false ≡ true = from h.1 in cc)

of_policies_all : (found : Option PolicyFault) → ListsAll (λ fault. (p : PolicyFault) × (found ≡ Some p) × (fault ≡ Policy p)) (of_policies found)
of_policies_all None fault = (λ c. absurd (empty fault c), λ h. let wrong : None ≡ Some h.0 = h.1 in cc)
of_policies_all (Some p) fault = (λ c. (p, refl, (one (Policy p) fault).0 c), back)
  where
    back : (q : PolicyFault) × (Some p ≡ Some q) × (fault ≡ Policy q) → Contains (Policy p ∷ []) fault
    back (q, e, f) = let here : p ≡ q = cc in (one (Policy p) fault).1 (rw here f)

expressions_all : (texts : List PolicyExpression) → ListsAll (λ fault. (fault ≡ NotAnExpression) × SomeIsNone texts) (expressions_faults texts)
expressions_all [] = λ fault. (λ c. absurd (empty fault c), λ h. absurd (none_of_none h.1))
expressions_all (text ∷ rest) = of (is_one text) refl (expressions_all rest)
  where
    left : is_one text ≡ true → (is_one text ≡ false) ⊎ SomeIsNone rest → SomeIsNone rest
    left n (inl m) = cc
    left n (inr l) = l

    of : (r : Bool) → is_one text ≡ r → ListsAll (λ fault. (fault ≡ NotAnExpression) × SomeIsNone rest) (expressions_faults rest)
        → ListsAll (λ fault. (fault ≡ NotAnExpression) × SomeIsNone (text ∷ rest)) ((if r then [] else NotAnExpression ∷ []) ++ expressions_faults rest)
    of true n deeper = λ fault. (λ c. let h = (deeper fault).0 c in (h.0, later text rest h.1), λ h. (deeper fault).1 (h.0, left n (first_or_later text rest h.1)))
    of false n deeper =
        same (λ f. (f ≡ NotAnExpression) ⊎ ((f ≡ NotAnExpression) × SomeIsNone rest)) (λ f. (f ≡ NotAnExpression) × SomeIsNone (text ∷ rest)) ((NotAnExpression ∷ []) ++ expressions_faults rest)
        (λ f h. (of_either f h, at_first text rest n)) (λ f h. inl h.0)
        (both (λ f. f ≡ NotAnExpression) (λ f. (f ≡ NotAnExpression) × SomeIsNone rest) (NotAnExpression ∷ []) (expressions_faults rest) (one NotAnExpression) deeper)
      where
        of_either : (f : ConfigFault) → (f ≡ NotAnExpression) ⊎ ((f ≡ NotAnExpression) × SomeIsNone rest) → f ≡ NotAnExpression
        of_either f (inl e) = e
        of_either f (inr h) = h.0

of_expressions_all : (found : Option PolicyFault) (texts : List PolicyExpression) → ListsAll (λ fault. (fault ≡ NotAnExpression) × (found ≡ None) × SomeIsNone texts) (of_expressions found texts)
of_expressions_all None texts fault = (λ c. let h = (expressions_all texts fault).0 c in (h.0, refl, h.1), λ h. (expressions_all texts fault).1 (h.0, h.2))
of_expressions_all (Some p) texts fault = (λ c. absurd (empty fault c), λ h. let wrong : Some p ≡ None = h.1 in cc)

-- the faults beside those of the table
abbrev Given : Config → ConfigFault → Type 0
Given config fault =
    ((fault ≡ TooFewTraces) × (config.num_traces < config.shards))
    ⊎ (((p : PolicyFault) × (fault_of_policies config.policies ≡ Some p) × (fault ≡ Policy p))
    ⊎ ((fault ≡ NotAnExpression) × (fault_of_policies config.policies ≡ None) × SomeIsNone (expressions_among config.policies)))

given_all : (config : Config) → ListsAll (Given config) (given_faults config)
given_all config =
    both (λ fault. (fault ≡ TooFewTraces) × (config.num_traces < config.shards)) _ _ _
    (few_all (config.num_traces < config.shards) (nat_lt config.num_traces config.shards) (λ e. grind (arith, nat_tests)) (λ e. grind (arith, nat_tests)))
    (both (λ fault. (p : PolicyFault) × (fault_of_policies config.policies ≡ Some p) × (fault ≡ Policy p)) _ _ _
    (of_policies_all (fault_of_policies config.policies)) (of_expressions_all (fault_of_policies config.policies) (expressions_among config.policies)))

document_all : (document : Option Members) → ListsAll (DocumentHas document) (document_faults document)
document_all None = one NotToml
document_all (Some members) =
    both (HasFault members) (Given (config_of members)) _ _ (table_all members) (given_all (config_of members))

pub text_all : (text : List ℕ) → ListsAll (TextHas text) (text_faults text)
text_all text = document_all (parse_document text)

-- ---- what follows of the text's reading

pub least_listed : (text : List ℕ) → IsLeastOf (Contains (text_faults text)) (result_err (reading text))
least_listed text = as_well (TextHas text) (Contains (text_faults text)) (result_err (reading text)) (λ fault h. (text_all text fault).1 h) (λ fault c. (text_all text fault).0 c) (text_least text)

no_fault : (faults : List ConfigFault) (answer : Result Config ConfigFault) → IsLeastOf (Contains faults) (result_err answer) → (faults ≡ []) ↔ IsOk answer
no_fault [] (Ok config) least = (λ e. refl, λ h. refl)
no_fault [] (Err fault) least = (λ e. absurd (empty fault (least.is_one fault refl)), λ h. cc)
no_fault (first ∷ rest) (Ok config) least = (λ e. cc, λ h. let f = least.is_least first (0, omega arith, refl) in let wrong : None ≡ Some f.0 = f.1 in cc)
no_fault (first ∷ rest) (Err fault) least = (λ e. cc, λ h. cc)

pub none_listed : (text : List ℕ) → (text_faults text ≡ []) ↔ IsOk (reading text)
none_listed text = no_fault (text_faults text) (reading text) (least_listed text)
