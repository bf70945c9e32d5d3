-- The faults that the walk over a table finds have a number below that of too few traces.
-- For the contracts of `answers_least_fault` and `config_of`.
use Rattle.std.proofs.Common.{◌≡◌, ◌<◌, ℤ, pos, Bool, true, false, ◌⊎◌, inl, inr, ap, arith, codes, List, [], ◌∷◌, int_le, ◌&&◌, ◌||◌, Option, None, Some, if◌then◌else◌}
use Rattle.std.specs.Str.{bytes_eq}
use Rattle.toml.specs.Data.{Data, string, integer, float, boolean, array, table, Items, no_items, item, Members, no_members, member, get_member}
use Rattle.tsc_config.proofs.FaultSets.{least_is_one}
use Rattle.policy_tree.specs.declared.policy.Join.{Join}
use Rattle.policy_tree.specs.declared.policy.Join.TheVariants as join_is
use Rattle.config_faults.specs.Composites.{is_ordered}
use Rattle.config_faults.specs.Percentages.{percentage_of}
use Rattle.config_faults.specs.Tables.{ChoiceRow, choice_row, top_settings, cache_settings, export_settings, ledger_settings}
use Rattle.config_faults.specs.Exports.{is_endpoint}
use Rattle.config_faults.specs.Headers.{may_be_sent}
use Rattle.config_faults.specs.PolicyTypes.{type_name, settings as spec_settings}
use Rattle.config_faults.specs.Keys.{has_unknown_key, type_at, type_of, code_of, join_type, join_name, sub_key, join_at}
use Rattle.config_faults.specs.Faults.{config_fault_number, least, optional, required, unknown_fault, integer_fault, whole_fault, truth_fault, text_fault, choice_fault, is_log_form, log_fault, is_output_fault, is_ledger_sync, is_error_mode, output_fault_fault, ledger_sync_fault, error_mode_fault, type_fault, code_fault, percentage_fault, named_fault, items_fault, array_fault, item_fault, wanted_fault, each_setting_fault}
use Rattle.config_faults.specs.Faults as spec
use Rattle.std.specs.Option.{is_some}
use Rattle.config_faults.specs.Setting.{Setting}
use Rattle.config_faults.specs.declared.settings.ItemKind.{ItemKind}
use Rattle.config_faults.specs.declared.settings.ItemKind.TheVariants as item_is
use Rattle.config_faults.specs.declared.settings.ValueKind.{ValueKind}
use Rattle.config_faults.specs.declared.settings.ValueKind.TheVariants as value_is
use Rattle.config_faults.specs.declared.fault.ConfigFault.{ConfigFault}
use Rattle.config_faults.specs.declared.fault.ConfigFault.TheVariants.{UnknownKey, MissingKey, WrongType, OutOfRange, ExpressionTooBig}
use Rattle.config_faults.specs.declared.policy_types.PolicyType.{PolicyType}
use Rattle.config_faults.specs.declared.policy_types.PolicyType.TheVariants as type_is
use Rattle.config_faults.specs.declared.keys.TableKind.{TableKind}
use Rattle.config_faults.specs.declared.keys.TableKind.TheVariants as table_is

abbrev pub IsSmall : Option ConfigFault → Type 0
IsSmall found = (fault : ConfigFault) → found ≡ Some fault → config_fault_number fault < 6

none : IsSmall None
none fault e = cc

only : (found : ConfigFault) → config_fault_number found < 6 → IsSmall (Some found)
only found h fault e = let same : found ≡ fault = cc in rw (← same) h

wrong : IsSmall (Some WrongType)
wrong = only WrongType (omega arith)

missing : IsSmall (Some MissingKey)
missing = only MissingKey (omega arith)

both : (a b : Option ConfigFault) → IsSmall a → IsSmall b → IsSmall (least a b)
both a b p q fault e = of (least_is_one a b fault e)
  where
    of : (a ≡ Some fault) ⊎ (b ≡ Some fault) → config_fault_number fault < 6
    of (inl x) = p fault x
    of (inr x) = q fault x

either : (r : Bool) (a b : Option ConfigFault) → IsSmall a → IsSmall b → IsSmall (if r then a else b)
either true a b p q = p
either false a b p q = q

unknown : (kind : TableKind) (members : Members) → IsSmall (unknown_fault kind members)
unknown kind members = either (has_unknown_key kind members) _ _ (only UnknownKey (omega arith)) none

twice : (members : Members) → IsSmall (spec.twice_fault members)
unfolding spec.twice_fault
twice members =
    either (is_some (get_member (codes "root_wait_ms") members) && is_some (get_member (codes "decision_wait_after_root_received_ms") members)) _ _ (only UnknownKey (omega arith)) none

optionally : (f : Data → Option ConfigFault) → ((value : Data) → IsSmall (f value)) → (at : Option Data) → IsSmall (optional f at)
optionally f each None = none
optionally f each (Some value) = each value

requiredly : (f : Data → Option ConfigFault) → ((value : Data) → IsSmall (f value)) → (at : Option Data) → IsSmall (required f at)
requiredly f each None = missing
requiredly f each (Some value) = each value

integers : (lowest greatest : ℤ) (value : Data) → IsSmall (integer_fault lowest greatest value)
integers lowest greatest (integer number) = either (int_le lowest number && int_le number greatest) _ _ none (only OutOfRange (omega arith))
integers lowest greatest _ = wrong

texts : (value : Data) → IsSmall (text_fault value)
texts (string text) = none
texts _ = wrong

truths : (value : Data) → IsSmall (truth_fault value)
truths (boolean value) = none
truths _ = wrong

choices : (row : ChoiceRow) (value : Data) → IsSmall (choice_fault row value)
choices row (string text) = either (bytes_eq text row.default || bytes_eq text row.other) _ _ none (only OutOfRange (omega arith))
choices row _ = wrong

log_forms : (value : Data) → IsSmall (log_fault value)
log_forms (string text) = either (is_log_form text) _ _ none (only OutOfRange (omega arith))
log_forms _ = wrong

output_faults : (value : Data) → IsSmall (output_fault_fault value)
output_faults (string text) = either (is_output_fault text) _ _ none (only OutOfRange (omega arith))
output_faults _ = wrong

ledger_syncs : (value : Data) → IsSmall (ledger_sync_fault value)
ledger_syncs (string text) = either (is_ledger_sync text) _ _ none (only OutOfRange (omega arith))
ledger_syncs _ = wrong

error_modes : (value : Data) → IsSmall (error_mode_fault value)
error_modes (string text) = either (is_error_mode text) _ _ none (only OutOfRange (omega arith))
error_modes _ = wrong

wholes : (value : Data) → IsSmall (whole_fault value)
wholes (integer number) = none
wholes _ = wrong

named : {A : Type 0} → (found : Option A) → IsSmall (named_fault found)
named None = only OutOfRange (omega arith)
named (Some found) = none

endpoints : (value : Data) → IsSmall (spec.endpoint_fault value)
endpoints (string text) = either (is_endpoint text) _ _ none (only OutOfRange (omega arith))
endpoints _ = wrong

fields : (members : Members) → IsSmall (spec.fields_fault members)
fields no_members = none
fields (member name (string text) rest) = both _ _ (either (may_be_sent name text) _ _ none (only OutOfRange (omega arith))) (fields rest)
fields (member name _ rest) = both _ _ wrong (fields rest)

headers : (value : Data) → IsSmall (spec.headers_fault value)
headers (table members) = fields members
headers _ = wrong

types : (value : Data) → IsSmall (type_fault value)
types (string text) = named (type_of (string text))
types _ = wrong

status_codes : (value : Data) → IsSmall (code_fault value)
status_codes (string text) = named (code_of (string text))
status_codes _ = wrong

percentages : (value : Data) → IsSmall (percentage_fault value)
percentages (integer number) = named (percentage_of (integer number))
percentages (float number) = named (percentage_of (float number))
percentages _ = wrong

all_items : (f : Data → Option ConfigFault) → ((value : Data) → IsSmall (f value)) → (items : Items) → IsSmall (items_fault f items)
all_items f each no_items = none
all_items f each (item value rest) = both _ _ (each value) (all_items f each rest)

arrays : (f : Data → Option ConfigFault) → ((value : Data) → IsSmall (f value)) → (value : Data) → IsSmall (array_fault f value)
arrays f each (array items) = all_items f each items
arrays f each _ = wrong

allocations : (value : Data) → IsSmall (spec.allocation_fault value)
allocations (table members) =
    both _ _ (unknown table_is.Allocation members)
    (both _ _ (requiredly text_fault texts (get_member (codes "policy") members)) (requiredly (integer_fault (pos 1) (pos 100)) (integers (pos 1) (pos 100)) (get_member (codes "percent") members)))
allocations _ = wrong

order : (join : Join) (members : Members) → IsSmall (spec.order_fault join members)
order join_is.FirstMatch members = either (is_ordered (get_member (codes "policy_order") members) (get_member (codes "composite_sub_policy") members)) _ _ none (only OutOfRange (omega arith))
order join_is.And members = none
order join_is.Not members = none
order join_is.Drop members = none
order join_is.Share members = none

items : (kind : ItemKind) (value : Data) → IsSmall (item_fault kind value)
items item_is.Text value = texts value
items item_is.StatusCode value = status_codes value
items item_is.Allocation value = allocations value

values : (kind : ValueKind) (value : Data) → IsSmall (wanted_fault kind value)
values (value_is.Integer lowest greatest) value = integers lowest greatest value
values value_is.Whole value = wholes value
values value_is.Truth value = truths value
values value_is.Text value = texts value
values value_is.Endpoint value = endpoints value
values value_is.Headers value = headers value
values value_is.PolicyType value = types value
values (value_is.Choice key) value = choices (choice_row key) value
values value_is.LogForm value = log_forms value
values value_is.OutputFault value = output_faults value
values value_is.LedgerSync value = ledger_syncs value
values value_is.ErrorMode value = error_modes value
values value_is.Percentage value = percentages value
values (value_is.Array kind) value = arrays (item_fault kind) (items kind) value

key : (r : Bool) (kind : ValueKind) (at : Option Data) → IsSmall (if r then required (wanted_fault kind) at else optional (wanted_fault kind) at)
key r kind at = either r _ _ (requiredly (wanted_fault kind) (values kind) at) (optionally (wanted_fault kind) (values kind) at)

each : (rows : List Setting) (members : Members) → IsSmall (each_setting_fault rows members)
each [] members = none
each (s ∷ rest) members = both _ _ (key s.is_required s.value (get_member s.name members)) (each rest members)

tables : (kind : TableKind) (rows : List Setting) (value : Data) → IsSmall (spec.table_of_fault kind rows value)
tables kind rows (table members) = both _ _ (unknown kind members) (each rows members)
tables kind rows _ = wrong

settings_at : (kind : PolicyType) (members : Members) (nested : Option ConfigFault) → IsSmall nested → IsSmall (spec.settings_at_fault kind members nested)
settings_at type_is.AlwaysSample _ nested n = none
settings_at type_is.TraceFlags _ nested n = none
settings_at type_is.And _ nested n = n
settings_at type_is.Not _ nested n = n
settings_at type_is.Drop _ nested n = n
settings_at type_is.Composite _ nested n = n
settings_at kind members nested n = requiredly (spec.settings_fault kind) (tables (table_is.Settings kind) (spec_settings kind)) (get_member (type_name kind) members)

typed : (found : Option PolicyType) (members : Members) (nested : Option ConfigFault) → IsSmall nested → IsSmall (spec.typed_fault_where found members nested)
typed None _ nested n = none
typed (Some kind) members nested n = both _ _ (unknown (table_is.Policy kind) members) (settings_at kind members nested n)

policy_table : (members : Members) (nested : Option ConfigFault) → IsSmall nested → IsSmall (spec.policy_table_fault members nested)
unfolding spec.policy_table_fault
policy_table members nested n =
    both _ _ (both _ _ (requiredly text_fault texts (get_member (codes "name") members)) (requiredly type_fault types (get_member (codes "type") members)))
    (typed (type_at members) members nested n)

mutual
  policies : (value : Data) → IsSmall (spec.policies_fault value)
  policies (array items) = policy_items items
  policies _ = wrong

  policy_items : (items : Items) → IsSmall (spec.policy_items_fault items)
  policy_items no_items = none
  policy_items (item value rest) = both _ _ (policy value) (policy_items rest)

  policy : (value : Data) → IsSmall (spec.policy_fault value)
  policy (table members) = policy_table members (spec.parts_fault (join_at members) members) (parts (join_at members) members)
  policy _ = wrong

  parts : (join : Join) (members : Members) → IsSmall (spec.parts_fault join members)
  parts join no_members = missing
  parts join (member key value rest) = either (bytes_eq key (join_name join)) _ _ (parts_settings join value) (parts join rest)

  parts_settings : (join : Join) (value : Data) → IsSmall (spec.parts_settings_fault join value)
  parts_settings join (table members) =
      both _ _ (unknown (table_is.Settings (join_type join)) members) (both _ _ (each (spec_settings (join_type join)) members) (both _ _ (order join members) (sub_policies join members)))
  parts_settings join _ = wrong

  sub_policies : (join : Join) (members : Members) → IsSmall (spec.sub_policies_fault join members)
  sub_policies join no_members = missing
  sub_policies join (member key value rest) = either (bytes_eq key (sub_key join)) _ _ (sub_value join value) (sub_policies join rest)

  sub_value : (join : Join) (value : Data) → IsSmall (spec.sub_value_fault join value)
  sub_value join_is.And (array items) = policy_items items
  sub_value join_is.Not (table members) = policy_table members (spec.parts_fault (join_at members) members) (parts (join_at members) members)
  sub_value join_is.Drop (array items) = policy_items items
  sub_value join_is.FirstMatch (array items) = policy_items items
  sub_value _ _ = wrong

pub table_small : (members : Members) → IsSmall (spec.table_fault members)
unfolding spec.table_fault spec.keys_fault
table_small members =
    both _ _ (both _ _ (unknown table_is.Config members) (twice members))
    (both _ _ (each top_settings members)
    (both _ _ (optionally spec.cache_fault (tables table_is.DecisionCache cache_settings) (get_member (codes "decision_cache") members))
    (both _ _ (optionally spec.export_fault (tables table_is.Export export_settings) (get_member (codes "export") members))
    (both _ _ (optionally spec.ledger_fault (tables table_is.Ledger ledger_settings) (get_member (codes "ledger") members))
    (requiredly spec.policies_fault policies (get_member (codes "policies") members))))))

-- so it isn't that an expression is too big
pub table_not_big : (members : Members) (fault : ConfigFault) → spec.table_fault members ≡ Some fault → fault ≡ ExpressionTooBig → ⊥
table_not_big members fault e big =
    let low : config_fault_number fault < 6 = table_small members fault e in
    let high : config_fault_number fault ≡ 10 = ap config_fault_number big in
    absurd (omega (arith, low, high))
