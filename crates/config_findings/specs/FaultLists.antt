-- Every fault of a configuration: a list with one for each place that has one, in the order of the rows.
use Rattle.std.specs.Prelude.{◌≡◌, ◌++◌, ◌↔◌, ℕ, ◌≤◌, Bool, true, false, List, [], ◌∷◌, codes, Option, None, Some, if◌then◌else◌, nat_lt, map, replicate, count_by}
use Rattle.std.specs.List.{Contains}
use Rattle.std.specs.Str.{bytes_eq}
use Rattle.toml.specs.Data.{Data, array, table, Items, no_items, item, Members, no_members, member, get_member}
use Rattle.toml.specs.Parse.{parse_document}
use Rattle.policy_tree.specs.declared.expressions.ExpressionKind.{ExpressionKind}
use Rattle.policy_tree.specs.declared.expressions.PolicyExpression.{PolicyExpression}
use Rattle.policy_tree.specs.Faults.{fault_of_policies}
use Rattle.policy_tree.specs.declared.fault.PolicyFault.{PolicyFault}
use Rattle.policy_tree.specs.declared.policy.Policy as tree
use Rattle.policy_tree.specs.declared.policy.Join.{Join}
use Rattle.policy_tree.specs.declared.policy.Join.TheVariants as join_is
use Rattle.config_faults.specs.Setting.{Setting, required}
use Rattle.config_faults.specs.PolicyTypes.{settings, type_name}
use Rattle.config_faults.specs.Tables.{top_settings, cache_settings, export_settings, ledger_settings}
use Rattle.config_faults.specs.Keys.{is_key, type_at, join_type, join_name, sub_key, join_at}
use Rattle.config_faults.specs.Faults.{item_fault, wanted_fault, order_fault, twice_fault}
use Rattle.tsc_config.specs.Reading.{is_one, is_one_as, expressions_among}
use Rattle.tsc_config.specs.Values.{config_of}
use Rattle.tsc_config.specs.declared.config.Config.{Config}
use Rattle.config_faults.specs.declared.fault.ConfigFault.{ConfigFault}
use Rattle.config_faults.specs.declared.fault.ConfigFault.TheVariants.{NotToml, UnknownKey, MissingKey, WrongType, TooFewTraces, Policy, NotAnExpression, ExpressionTooBig}
use Rattle.config_findings.specs.declared.findings.ConfigFinding.{ConfigFinding}
use Rattle.config_faults.specs.declared.policy_types.PolicyType.{PolicyType}
use Rattle.config_faults.specs.declared.policy_types.PolicyType.TheVariants as type_is
use Rattle.config_faults.specs.declared.keys.TableKind.{TableKind}
use Rattle.config_faults.specs.declared.keys.TableKind.TheVariants as table_is
use Rattle.config_faults.specs.declared.settings.ValueKind.{ValueKind}
use Rattle.config_faults.specs.declared.settings.ValueKind.TheVariants as value_is

-- the faults of findings, in order
abbrev pub faults_in : List ConfigFinding → List ConfigFault
faults_in findings = map (λ (f : ConfigFinding). f.fault) findings

-- a fault, where there is one
abbrev pub listed : Option ConfigFault → List ConfigFault
listed None = []
listed (Some fault) = fault ∷ []

-- one for each key that tables of this kind don't have
abbrev pub unknown_faults : TableKind → Members → List ConfigFault
unknown_faults kind no_members = []
unknown_faults kind (member key value rest) = if is_key kind key then unknown_faults kind rest else UnknownKey ∷ unknown_faults kind rest

-- one for each item that has one
abbrev pub items_faults : (Data → Option ConfigFault) → Items → List ConfigFault
items_faults fault_of no_items = []
items_faults fault_of (item value rest) = listed (fault_of value) ++ items_faults fault_of rest

-- those of a value of this kind
abbrev pub value_faults : ValueKind → Data → List ConfigFault
value_faults (value_is.Array kind) (array items) = items_faults (item_fault kind) items
value_faults kind value = listed (wanted_fault kind value)

-- those of what stands at a key that may be missing
abbrev pub optional_faults : (Data → List ConfigFault) → Option Data → List ConfigFault
optional_faults faults_of None = []
optional_faults faults_of (Some value) = faults_of value

-- those of what stands at a required key
abbrev pub required_faults : (Data → List ConfigFault) → Option Data → List ConfigFault
required_faults faults_of None = MissingKey ∷ []
required_faults faults_of (Some value) = faults_of value

-- those of the row of one setting
abbrev pub setting_faults : Setting → Members → List ConfigFault
setting_faults s members =
    if s.is_required then required_faults (value_faults s.value) (get_member s.name members) else optional_faults (value_faults s.value) (get_member s.name members)

-- those of the rows of these settings
abbrev pub rows_faults : List Setting → Members → List ConfigFault
rows_faults [] given = []
rows_faults (s ∷ rest) given = setting_faults s given ++ rows_faults rest given

-- those of a table of this kind with these settings
abbrev pub settings_faults : TableKind → List Setting → Data → List ConfigFault
settings_faults kind rows (table members) = unknown_faults kind members ++ rows_faults rows members
settings_faults kind rows _ = WrongType ∷ []

-- ---- policies

-- what every policy table has to have
abbrev pub head_settings : List Setting
head_settings = required (codes "name") value_is.Text ∷ required (codes "type") value_is.PolicyType ∷ []

-- a type is made of other policies
abbrev pub is_joined : Option PolicyType → Bool
is_joined (Some type_is.And) = true
is_joined (Some type_is.Not) = true
is_joined (Some type_is.Drop) = true
is_joined (Some type_is.Composite) = true
is_joined _ = false

-- those of the settings of a policy table of this type, where it isn't made of others
abbrev pub own_faults : PolicyType → Members → List ConfigFault
own_faults type_is.AlwaysSample _ = []
own_faults type_is.TraceFlags _ = []
own_faults type_is.And _ = []
own_faults type_is.Not _ = []
own_faults type_is.Drop _ = []
own_faults type_is.Composite _ = []
own_faults kind members = required_faults (settings_faults (table_is.Settings kind) (settings kind)) (get_member (type_name kind) members)

-- those of a policy table beside `name`, `type` and the policies that it is made of: only where its type is known
abbrev pub typed_faults : Option PolicyType → Members → List ConfigFault
typed_faults None _ = []
typed_faults (Some kind) members = unknown_faults (table_is.Policy kind) members ++ own_faults kind members

-- those of a policy table but for the policies that it is made of
abbrev pub head_faults : Members → List ConfigFault
head_faults members = rows_faults head_settings members ++ typed_faults (type_at members) members

-- those of a policy table: `nested` are those of the settings of a type that is made of others
abbrev pub policy_table_faults : Members → (nested : List ConfigFault) → List ConfigFault
policy_table_faults members nested = head_faults members ++ (if is_joined (type_at members) then nested else [])

abbrev mutual
  -- an array of policy tables is wanted
  pub policies_faults : Data → List ConfigFault
  policies_faults (array items) = policy_items_faults items
  policies_faults _ = WrongType ∷ []

  -- those of some policies
  pub policy_items_faults : Items → List ConfigFault
  policy_items_faults no_items = []
  policy_items_faults (item value rest) = policy_faults value ++ policy_items_faults rest

  -- a policy table is wanted
  pub policy_faults : Data → List ConfigFault
  policy_faults (table members) = policy_table_faults members (parts_faults (join_at members) members)
  policy_faults _ = WrongType ∷ []

  -- in a policy table the settings of a policy that is joined so are wanted
  pub parts_faults : Join → Members → List ConfigFault
  parts_faults join no_members = MissingKey ∷ []
  parts_faults join (member key value rest) = if bytes_eq key (join_name join) then parts_settings_faults join value else parts_faults join rest

  -- the settings of such a policy are wanted
  pub parts_settings_faults : Join → Data → List ConfigFault
  parts_settings_faults join (table members) =
      unknown_faults (table_is.Settings (join_type join)) members ++ (rows_faults (settings (join_type join)) members ++ (listed (order_fault join members) ++ sub_policies_faults join members))
  parts_settings_faults join _ = WrongType ∷ []

  -- in its settings the policies that are joined are wanted
  pub sub_policies_faults : Join → Members → List ConfigFault
  sub_policies_faults join no_members = MissingKey ∷ []
  sub_policies_faults join (member key value rest) = if bytes_eq key (sub_key join) then sub_value_faults join value else sub_policies_faults join rest

  -- an array of policy tables is wanted, or of a `not` one policy table
  pub sub_value_faults : Join → Data → List ConfigFault
  sub_value_faults join_is.And (array items) = policy_items_faults items
  sub_value_faults join_is.Not (table members) = policy_table_faults members (parts_faults (join_at members) members)
  sub_value_faults join_is.Drop (array items) = policy_items_faults items
  sub_value_faults join_is.FirstMatch (array items) = policy_items_faults items
  sub_value_faults _ _ = WrongType ∷ []

-- ---- the whole text

-- the faults of the tables at the keys of tables
abbrev pub tables_faults : Members → List ConfigFault
tables_faults members =
    optional_faults (settings_faults table_is.DecisionCache cache_settings) (get_member (codes "decision_cache") members)
    ++ (optional_faults (settings_faults table_is.Export export_settings) (get_member (codes "export") members)
    ++ (optional_faults (settings_faults table_is.Ledger ledger_settings) (get_member (codes "ledger") members)
    ++ required_faults policies_faults (get_member (codes "policies") members)))

-- the faults of the table of a configuration
abbrev pub table_faults : Members → List ConfigFault
table_faults members = (unknown_faults table_is.Config members ++ listed (twice_fault members)) ++ (rows_faults top_settings members ++ tables_faults members)

-- the fault of policies
abbrev pub of_policies : Option PolicyFault → List ConfigFault
of_policies None = []
of_policies (Some fault) = Policy fault ∷ []

-- that of a text that is wanted to be a regular expression or a condition
abbrev pub faults_as : ExpressionKind → (text : List ℕ) → List ConfigFault
faults_as kind text = if is_one_as kind text then [] else NotAnExpression ∷ []

abbrev pub expression_faults : PolicyExpression → List ConfigFault
expression_faults e = faults_as e.kind e.text

-- one for each text that is none
abbrev pub expressions_faults : List PolicyExpression → List ConfigFault
expressions_faults [] = []
expressions_faults (e ∷ rest) = expression_faults e ++ expressions_faults rest

-- those of the expressions of policies, where these have no fault
abbrev pub of_expressions : Option PolicyFault → List PolicyExpression → List ConfigFault
of_expressions None expressions = expressions_faults expressions
of_expressions (Some fault) expressions = []

-- those of the policies, and of their expressions
abbrev pub policies_given_faults : List tree.Policy → List ConfigFault
policies_given_faults policies = of_policies (fault_of_policies policies) ++ of_expressions (fault_of_policies policies) (expressions_among policies)

-- those of what the table gives: a shard without a trace, and the policies' own
abbrev pub given_faults : Config → List ConfigFault
given_faults config = (if nat_lt config.num_traces config.shards then TooFewTraces ∷ [] else []) ++ policies_given_faults config.policies

-- those of a document, where there is one
abbrev pub document_faults : Option Members → List ConfigFault
document_faults None = NotToml ∷ []
document_faults (Some members) = table_faults members ++ given_faults (config_of members)

-- those of a text
abbrev pub text_faults : List ℕ → List ConfigFault
text_faults text = document_faults (parse_document text)

-- the expressions of policies that are looked at: where these have no fault
abbrev pub looked_at : Option PolicyFault → List PolicyExpression → List PolicyExpression
looked_at None expressions = expressions
looked_at (Some fault) expressions = []

-- how many expressions policies have, where these have no fault
abbrev pub policies_expressions : List tree.Policy → ℕ
policies_expressions policies = count_by is_one (looked_at (fault_of_policies policies) (expressions_among policies))

-- how many the policies of a document have
abbrev pub document_expressions : Option Members → ℕ
document_expressions None = 0
document_expressions (Some members) = policies_expressions (config_of members).policies

-- how many those of a text have
abbrev pub text_expressions : List ℕ → ℕ
text_expressions text = document_expressions (parse_document text)

-- what is told of a text: its faults, and behind them that some number of its expressions are too big. How many, it
-- doesn't tell: where it has none, just its faults are told
abbrev pub Tells : (text : List ℕ) → (told : List ConfigFault) → Type 0
Tells text told = (big : ℕ) × (told ≡ text_faults text ++ replicate big ExpressionTooBig) × (big ≤ text_expressions text)

-- the list has the faults of the set, and no others
abbrev pub ListsAll : (Has : ConfigFault → Type 0) → List ConfigFault → Type 0
ListsAll Has faults = (fault : ConfigFault) → Contains faults fault ↔ Has fault
