-- The keys of each kind of table, and the texts that `type` and `status_codes` take.
use Rattle.std.specs.Prelude.{ℕ, ℤ, pos, Bool, false, not, ◌&&◌, ◌||◌, List, [], ◌∷◌, codes, Option, Some, None, option_and_then, if◌then◌else◌}
use Rattle.std.specs.List.{list_any}
use Rattle.std.specs.Str.{bytes_eq}
use Rattle.config_faults.specs.Setting.{Setting}
use Rattle.config_faults.specs.PolicyTypes.{settings, type_name, has_settings, all_types}
use Rattle.config_faults.specs.Tables.{top_settings, cache_settings, export_settings, ledger_settings}
use Rattle.toml.specs.Data.{Data, as_str, Members, no_members, member, get_member}
use Rattle.policy_tree.specs.declared.policy.Join.{Join}
use Rattle.policy_tree.specs.declared.policy.Join.TheVariants as join_is
use Rattle.config_faults.specs.declared.policy_types.PolicyType.{PolicyType}
use Rattle.config_faults.specs.declared.policy_types.PolicyType.TheVariants as type_is
use Rattle.config_faults.specs.declared.keys.TableKind.{TableKind}
use Rattle.config_faults.specs.declared.keys.TableKind.TheVariants as table_is

-- the key of the policies that a policy of this type is made of
abbrev pub is_sub_key : PolicyType → List ℕ → Bool
is_sub_key type_is.And key = bytes_eq key (codes "and_sub_policy")
is_sub_key type_is.Not key = bytes_eq key (codes "not_sub_policy")
is_sub_key type_is.Drop key = bytes_eq key (codes "drop_sub_policy")
is_sub_key type_is.Composite key = bytes_eq key (codes "composite_sub_policy")
is_sub_key _ key = false

-- one of these settings has this key
abbrev pub has_key : List Setting → List ℕ → Bool
has_key rows key = list_any (λ (s : Setting). bytes_eq s.name key) rows

-- the keys of the settings of a policy of this type
abbrev pub is_setting : PolicyType → List ℕ → Bool
is_setting kind key = has_key (settings kind) key || is_sub_key kind key

-- the tables of a configuration
abbrev pub is_table_key : List ℕ → Bool
is_table_key key = bytes_eq key (codes "decision_cache") || bytes_eq key (codes "policies") || bytes_eq key (codes "export") || bytes_eq key (codes "ledger")

-- the keys of a table of this kind
unfoldable pub is_key : TableKind → List ℕ → Bool
is_key table_is.Config key = has_key top_settings key || is_table_key key
is_key table_is.DecisionCache key = has_key cache_settings key
is_key table_is.Export key = has_key export_settings key
is_key table_is.Ledger key = has_key ledger_settings key
is_key (table_is.Policy kind) key = bytes_eq key (codes "name") || bytes_eq key (codes "type") || has_settings kind && bytes_eq key (type_name kind)
is_key (table_is.Settings kind) key = is_setting kind key
is_key table_is.Allocation key = bytes_eq key (codes "policy") || bytes_eq key (codes "percent")

-- some key isn't one of the keys of a table of this kind
abbrev pub has_unknown_key : TableKind → Members → Bool
has_unknown_key kind no_members = false
has_unknown_key kind (member key value rest) = not (is_key kind key) || has_unknown_key kind rest

-- the first of these types that a text names
abbrev pub type_among : List PolicyType → List ℕ → Option PolicyType
type_among [] text = None
type_among (kind ∷ rest) text = if bytes_eq text (type_name kind) then Some kind else type_among rest text

-- the type of policy that a text names
abbrev pub type_named : List ℕ → Option PolicyType
type_named text = type_among all_types text

-- the type of policy that a value names
abbrev pub type_of : Data → Option PolicyType
type_of value = option_and_then type_named (as_str value)

-- the type of policy that the value at a key names
abbrev pub type_found : Option Data → Option PolicyType
type_found None = None
type_found (Some value) = type_of value

-- the type of policy that a policy table names
abbrev pub type_at : Members → Option PolicyType
type_at members = type_found (get_member (codes "type") members)

-- ---- types that are made of other policies

-- the type of policy that is joined so; of what has no type of its own this says nothing that counts
abbrev pub join_type : Join → PolicyType
join_type join_is.And = type_is.And
join_type join_is.Not = type_is.Not
join_type join_is.Drop = type_is.Drop
join_type join_is.FirstMatch = type_is.Composite
join_type join_is.Share = type_is.And

-- its name, which is also the key of its settings
abbrev pub join_name : Join → List ℕ
join_name join = type_name (join_type join)

-- the key of the policies that are joined, in these settings
abbrev pub sub_key : Join → List ℕ
sub_key join_is.And = codes "and_sub_policy"
sub_key join_is.Not = codes "not_sub_policy"
sub_key join_is.Drop = codes "drop_sub_policy"
sub_key join_is.FirstMatch = codes "composite_sub_policy"
sub_key join_is.Share = codes "and_sub_policy"

-- how the policies of a type are joined; of a type that isn't made of others this says nothing that counts
abbrev pub join_of : Option PolicyType → Join
join_of (Some type_is.Not) = join_is.Not
join_of (Some type_is.Drop) = join_is.Drop
join_of (Some type_is.Composite) = join_is.FirstMatch
join_of _ = join_is.And

-- how those of a policy table are
abbrev pub join_at : Members → Join
join_at members = join_of (type_at members)

-- ---- status codes

-- the status code that a text names (trace.proto v1, Status.StatusCode)
unfoldable pub code_named : List ℕ → Option ℤ
code_named text =
    if bytes_eq text (codes "UNSET") then Some (pos 0)
    else if bytes_eq text (codes "OK") then Some (pos 1)
    else if bytes_eq text (codes "ERROR") then Some (pos 2)
    else None

-- the status code that a value names
abbrev pub code_of : Data → Option ℤ
code_of value = option_and_then code_named (as_str value)
