-- What is wrong with the table of a configuration: the fault of least number among those of all its rows.
use Rattle.std.specs.Prelude.{Bool, ℕ, ℤ, pos, ◌&&◌, ◌||◌, List, [], ◌∷◌, codes, Option, None, Some, if◌then◌else◌, int_le, nat_lt}
use Rattle.std.specs.Option.{is_some}
use Rattle.std.specs.Str.{bytes_eq}
use Rattle.toml.specs.Data.{Data, string, integer, float, boolean, array, table, Items, no_items, item, Members, no_members, member, get_member}
use Rattle.config_faults.specs.Setting.{Setting}
use Rattle.config_faults.specs.PolicyTypes.{settings, type_name}
use Rattle.config_faults.specs.Composites.{is_ordered}
use Rattle.config_faults.specs.Percentages.{percentage_of}
use Rattle.config_faults.specs.Exports.{is_endpoint}
use Rattle.config_faults.specs.Headers.{may_be_sent}
use Rattle.config_faults.specs.Tables.{number_row, ChoiceRow, choice_row, top_settings, cache_settings, export_settings, ledger_settings}
use Rattle.config_faults.specs.Keys.{has_unknown_key, type_of, type_at, code_of, join_type, join_name, sub_key, join_at}
use Rattle.policy_tree.specs.declared.policy.Join.{Join}
use Rattle.policy_tree.specs.declared.policy.Join.TheVariants as join_is
use Rattle.config_faults.specs.declared.fault.ConfigFault.{ConfigFault}
use Rattle.config_faults.specs.declared.fault.ConfigFault.TheVariants.{NotToml, UnknownKey, MissingKey, WrongType, OutOfRange, TooFewTraces, Policy, NoMemory, NotAnExpression, ExpressionTooBig}
use Rattle.config_faults.specs.declared.tables.NumberKey.TheVariants as number_is
use Rattle.config_faults.specs.declared.policy_types.PolicyType.{PolicyType}
use Rattle.config_faults.specs.declared.policy_types.PolicyType.TheVariants as type_is
use Rattle.config_faults.specs.declared.keys.TableKind.{TableKind}
use Rattle.config_faults.specs.declared.keys.TableKind.TheVariants as table_is
use Rattle.config_faults.specs.declared.settings.ItemKind.{ItemKind}
use Rattle.config_faults.specs.declared.settings.ItemKind.TheVariants as item_is
use Rattle.config_faults.specs.declared.settings.ValueKind.{ValueKind}
use Rattle.config_faults.specs.declared.settings.ValueKind.TheVariants as value_is

-- the number of a fault
abbrev pub config_fault_number : ConfigFault → ℕ
config_fault_number NotToml = 1
config_fault_number UnknownKey = 2
config_fault_number MissingKey = 3
config_fault_number WrongType = 4
config_fault_number OutOfRange = 5
config_fault_number TooFewTraces = 6
config_fault_number (Policy fault) = 7
config_fault_number NoMemory = 8
config_fault_number NotAnExpression = 9
config_fault_number ExpressionTooBig = 10

-- the fault of less number, where there is one
abbrev pub least : Option ConfigFault → Option ConfigFault → Option ConfigFault
least None other = other
least (Some fault) None = Some fault
least (Some fault) (Some other) = if nat_lt (config_fault_number other) (config_fault_number fault) then Some other else Some fault

-- the fault of what stands at a key that may be missing
abbrev pub optional : (Data → Option ConfigFault) → Option Data → Option ConfigFault
optional fault_of None = None
optional fault_of (Some value) = fault_of value

-- the fault of what stands at a required key
abbrev pub required : (Data → Option ConfigFault) → Option Data → Option ConfigFault
required fault_of None = Some MissingKey
required fault_of (Some value) = fault_of value

-- a table has a key that tables of its kind don't have
abbrev pub unknown_fault : TableKind → Members → Option ConfigFault
unknown_fault kind members = if has_unknown_key kind members then Some UnknownKey else None

-- a whole number within these bounds is wanted
abbrev pub integer_fault : (lowest greatest : ℤ) → Data → Option ConfigFault
integer_fault lowest greatest (integer number) = if int_le lowest number && int_le number greatest then None else Some OutOfRange
integer_fault lowest greatest _ = Some WrongType

-- a text is wanted
abbrev pub text_fault : Data → Option ConfigFault
text_fault (string text) = None
text_fault _ = Some WrongType

-- a text of the form `http://HOST:PORT/PATH` is wanted
abbrev pub endpoint_fault : Data → Option ConfigFault
endpoint_fault (string text) = if is_endpoint text then None else Some OutOfRange
endpoint_fault _ = Some WrongType

-- a text is wanted that may be sent in a field of this name
abbrev pub field_fault : (name : List ℕ) → Data → Option ConfigFault
field_fault name (string text) = if may_be_sent name text then None else Some OutOfRange
field_fault name _ = Some WrongType

-- the least fault among some fields
abbrev pub fields_fault : Members → Option ConfigFault
fields_fault no_members = None
fields_fault (member name value rest) = least (field_fault name value) (fields_fault rest)

-- a table of fields is wanted
abbrev pub headers_fault : Data → Option ConfigFault
headers_fault (table members) = fields_fault members
headers_fault _ = Some WrongType

-- a text was found to name something of its list, or not
abbrev pub named_fault : {A : Type 0} → Option A → Option ConfigFault
named_fault None = Some OutOfRange
named_fault (Some found) = None

-- one of the two texts of a row is wanted
abbrev pub choice_fault : ChoiceRow → Data → Option ConfigFault
choice_fault row (string text) = if bytes_eq text row.default || bytes_eq text row.other then None else Some OutOfRange
choice_fault row _ = Some WrongType

-- the forms of the log
abbrev pub is_log_form : (text : List ℕ) → Bool
is_log_form text = bytes_eq text (codes "text") || (bytes_eq text (codes "json") || bytes_eq text (codes "off"))

-- one of them is wanted
abbrev pub log_fault : Data → Option ConfigFault
log_fault (string text) = if is_log_form text then None else Some OutOfRange
log_fault _ = Some WrongType

-- what is done once the output fails
abbrev pub is_output_fault : (text : List ℕ) → Bool
is_output_fault text = bytes_eq text (codes "discard") || (bytes_eq text (codes "stop") || bytes_eq text (codes "retry"))

-- one of them is wanted
abbrev pub output_fault_fault : Data → Option ConfigFault
output_fault_fault (string text) = if is_output_fault text then None else Some OutOfRange
output_fault_fault _ = Some WrongType

-- when the ledger of requests is synced
abbrev pub is_ledger_sync : (text : List ℕ) → Bool
is_ledger_sync text = bytes_eq text (codes "none") || (bytes_eq text (codes "interval") || bytes_eq text (codes "request"))

-- one of them is wanted
abbrev pub ledger_sync_fault : Data → Option ConfigFault
ledger_sync_fault (string text) = if is_ledger_sync text then None else Some OutOfRange
ledger_sync_fault _ = Some WrongType

-- what an error of a condition does
abbrev pub is_error_mode : (text : List ℕ) → Bool
is_error_mode text = bytes_eq text (codes "ignore") || (bytes_eq text (codes "silent") || bytes_eq text (codes "propagate"))

-- one of them is wanted
abbrev pub error_mode_fault : Data → Option ConfigFault
error_mode_fault (string text) = if is_error_mode text then None else Some OutOfRange
error_mode_fault _ = Some WrongType

-- a text that names a type of policy is wanted
abbrev pub type_fault : Data → Option ConfigFault
type_fault (string text) = named_fault (type_of (string text))
type_fault _ = Some WrongType

-- a text that names a status code is wanted
abbrev pub code_fault : Data → Option ConfigFault
code_fault (string text) = named_fault (code_of (string text))
code_fault _ = Some WrongType

-- the least fault among some items
abbrev pub items_fault : (Data → Option ConfigFault) → Items → Option ConfigFault
items_fault fault_of no_items = None
items_fault fault_of (item value rest) = least (fault_of value) (items_fault fault_of rest)

-- an array of such items is wanted
abbrev pub array_fault : (Data → Option ConfigFault) → Data → Option ConfigFault
array_fault fault_of (array items) = items_fault fault_of items
array_fault fault_of _ = Some WrongType

-- a truth value is wanted
abbrev pub truth_fault : Data → Option ConfigFault
truth_fault (boolean value) = None
truth_fault _ = Some WrongType

-- a whole number is wanted
abbrev pub whole_fault : Data → Option ConfigFault
whole_fault (integer number) = None
whole_fault _ = Some WrongType

-- a whole number from 0 to 2^63-1 is wanted
abbrev pub natural_fault : Data → Option ConfigFault
natural_fault value = integer_fault (pos 0) (pos 9223372036854775807) value

-- a percentage is wanted: a whole number from 0 to 100, or a number with at most four decimals
abbrev pub percentage_fault : Data → Option ConfigFault
percentage_fault (integer number) = named_fault (percentage_of (integer number))
percentage_fault (float number) = named_fault (percentage_of (float number))
percentage_fault _ = Some WrongType

-- the share of a part of a composite is wanted: a table of its name and a percentage
abbrev pub allocation_fault : Data → Option ConfigFault
allocation_fault (table members) =
    least (unknown_fault table_is.Allocation members)
    (least (required text_fault (get_member (codes "policy") members)) (required (integer_fault (pos 1) (pos 100)) (get_member (codes "percent") members)))
allocation_fault _ = Some WrongType

-- what is wanted of an item
abbrev pub item_fault : ItemKind → Data → Option ConfigFault
item_fault item_is.Text = text_fault
item_fault item_is.StatusCode = code_fault
item_fault item_is.Allocation = allocation_fault

-- what is wanted of a value
abbrev pub wanted_fault : ValueKind → Data → Option ConfigFault
wanted_fault (value_is.Integer lowest greatest) = integer_fault lowest greatest
wanted_fault value_is.Whole = whole_fault
wanted_fault value_is.Truth = truth_fault
wanted_fault value_is.Text = text_fault
wanted_fault value_is.Endpoint = endpoint_fault
wanted_fault value_is.Headers = headers_fault
wanted_fault value_is.PolicyType = type_fault
wanted_fault (value_is.Choice key) = choice_fault (choice_row key)
wanted_fault value_is.LogForm = log_fault
wanted_fault value_is.OutputFault = output_fault_fault
wanted_fault value_is.LedgerSync = ledger_sync_fault
wanted_fault value_is.ErrorMode = error_mode_fault
wanted_fault value_is.Percentage = percentage_fault
wanted_fault (value_is.Array kind) = array_fault (item_fault kind)

-- the row of one setting
abbrev pub setting_fault : Setting → Members → Option ConfigFault
setting_fault s members =
    if s.is_required then required (wanted_fault s.value) (get_member s.name members) else optional (wanted_fault s.value) (get_member s.name members)

-- the rows of these settings
abbrev pub each_setting_fault : List Setting → Members → Option ConfigFault
each_setting_fault [] given = None
each_setting_fault (s ∷ rest) given = least (setting_fault s given) (each_setting_fault rest given)

-- the rows of the settings of a policy of this type, but for the policies that it is made of
abbrev pub rows_fault : PolicyType → Members → Option ConfigFault
rows_fault kind members = each_setting_fault (settings kind) members

-- a table of this kind with these settings is wanted
abbrev pub table_of_fault : TableKind → List Setting → Data → Option ConfigFault
table_of_fault kind rows (table members) = least (unknown_fault kind members) (each_setting_fault rows members)
table_of_fault kind rows _ = Some WrongType

-- the settings of a policy of this type are wanted
abbrev pub settings_fault : PolicyType → Data → Option ConfigFault
settings_fault kind value = table_of_fault (table_is.Settings kind) (settings kind) value

-- the settings of a policy table of this type: `nested` is the fault of those of a type that is made of others
abbrev pub settings_at_fault : PolicyType → Members → (nested : Option ConfigFault) → Option ConfigFault
settings_at_fault type_is.AlwaysSample _ nested = None
settings_at_fault type_is.TraceFlags _ nested = None
settings_at_fault type_is.And _ nested = nested
settings_at_fault type_is.Not _ nested = nested
settings_at_fault type_is.Drop _ nested = nested
settings_at_fault type_is.Composite _ nested = nested
settings_at_fault kind members nested = required (settings_fault kind) (get_member (type_name kind) members)

-- the rows of a policy table of a known type, beside `name` and `type`
abbrev pub typed_fault : PolicyType → Members → (nested : Option ConfigFault) → Option ConfigFault
typed_fault kind members nested = least (unknown_fault (table_is.Policy kind) members) (settings_at_fault kind members nested)

-- those rows where the type is known; else nothing more is looked at
abbrev pub typed_fault_where : Option PolicyType → Members → (nested : Option ConfigFault) → Option ConfigFault
typed_fault_where None _ nested = None
typed_fault_where (Some kind) members nested = typed_fault kind members nested

-- the rows of a policy table
unfoldable pub policy_table_fault : Members → (nested : Option ConfigFault) → Option ConfigFault
policy_table_fault members nested =
    least (least (required text_fault (get_member (codes "name") members))
    (required type_fault (get_member (codes "type") members)))
    (typed_fault_where (type_at members) members nested)

-- where a composite has an order it is wanted to name the parts, each once
abbrev pub order_fault : Join → Members → Option ConfigFault
order_fault join_is.FirstMatch members = if is_ordered (get_member (codes "policy_order") members) (get_member (codes "composite_sub_policy") members) then None else Some OutOfRange
order_fault _ _ = None

abbrev mutual
  -- an array of policy tables is wanted
  pub policies_fault : Data → Option ConfigFault
  policies_fault (array items) = policy_items_fault items
  policies_fault _ = Some WrongType

  -- the least fault among some policies
  pub policy_items_fault : Items → Option ConfigFault
  policy_items_fault no_items = None
  policy_items_fault (item value rest) = least (policy_fault value) (policy_items_fault rest)

  -- a policy table is wanted
  pub policy_fault : Data → Option ConfigFault
  policy_fault (table members) = policy_table_fault members (parts_fault (join_at members) members)
  policy_fault _ = Some WrongType

  -- in a policy table the settings of a policy that is joined so are wanted
  pub parts_fault : Join → Members → Option ConfigFault
  parts_fault join no_members = Some MissingKey
  parts_fault join (member key value rest) = if bytes_eq key (join_name join) then parts_settings_fault join value else parts_fault join rest

  -- the settings of such a policy are wanted
  pub parts_settings_fault : Join → Data → Option ConfigFault
  parts_settings_fault join (table members) =
      least (unknown_fault (table_is.Settings (join_type join)) members) (least (rows_fault (join_type join) members) (least (order_fault join members) (sub_policies_fault join members)))
  parts_settings_fault join _ = Some WrongType

  -- in its settings the policies that are joined are wanted
  pub sub_policies_fault : Join → Members → Option ConfigFault
  sub_policies_fault join no_members = Some MissingKey
  sub_policies_fault join (member key value rest) = if bytes_eq key (sub_key join) then sub_value_fault join value else sub_policies_fault join rest

  -- an array of policy tables is wanted, or of a `not` one policy table
  pub sub_value_fault : Join → Data → Option ConfigFault
  sub_value_fault join_is.And (array items) = policy_items_fault items
  sub_value_fault join_is.Not (table members) = policy_table_fault members (parts_fault (join_at members) members)
  sub_value_fault join_is.Drop (array items) = policy_items_fault items
  sub_value_fault join_is.FirstMatch (array items) = policy_items_fault items
  sub_value_fault _ _ = Some WrongType

-- the sizes of the caches of decisions are wanted
abbrev pub cache_fault : Data → Option ConfigFault
cache_fault value = table_of_fault table_is.DecisionCache cache_settings value

-- the settings of `export` are wanted
abbrev pub export_fault : Data → Option ConfigFault
export_fault value = table_of_fault table_is.Export export_settings value

-- the settings of `ledger` are wanted
abbrev pub ledger_fault : Data → Option ConfigFault
ledger_fault value = table_of_fault table_is.Ledger ledger_settings value

-- both names of the wait from a trace's root on stand there
unfoldable pub twice_fault : Members → Option ConfigFault
twice_fault members =
    if is_some (get_member (number_row number_is.RootWait).name members) && is_some (get_member (number_row number_is.RootReceived).name members) then Some UnknownKey else None

-- the fault of the names of the keys: one that the table of a configuration doesn't have, or two of one setting
unfoldable pub keys_fault : Members → Option ConfigFault
keys_fault members = least (unknown_fault table_is.Config members) (twice_fault members)

-- the fault of the tables within a configuration's
abbrev pub tables_fault : Members → Option ConfigFault
tables_fault members =
    least (optional cache_fault (get_member (codes "decision_cache") members))
    (least (optional export_fault (get_member (codes "export") members))
    (least (optional ledger_fault (get_member (codes "ledger") members)) (required policies_fault (get_member (codes "policies") members))))

-- the rows of the whole table
unfoldable pub table_fault : Members → Option ConfigFault
table_fault members = least (keys_fault members) (least (each_setting_fault top_settings members) (tables_fault members))
