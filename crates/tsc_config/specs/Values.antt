-- What the table of a configuration gives. Of a table with a fault this says nothing that counts.
use Rattle.std.specs.Prelude.{ℕ, ℤ, pos, negsuc, Bool, true, false, List, [], ◌∷◌, codes, Option, Some, None, option_and_then, if◌then◌else◌, nat_le, ◌&&◌, ◌*◌, ◌/◌, max, min, map, length, ◌<◌, ◌≤◌}
use Rattle.std.specs.Option.{unwrap_or}
use Rattle.std.specs.Str.{bytes_eq}
use Rattle.toml.specs.Data.{Data, as_str, as_array, string, integer, boolean, array, table, Items, no_items, item, Members, no_members, member, get_member}
use Rattle.policy_tree.specs.declared.limit.Limit.{Limit}
use Rattle.policy_tree.specs.declared.limit.Limit.TheVariants.{Spans, Bytes}
use Rattle.policy_tree.specs.declared.policy.Policy.{Policy}
use Rattle.policy_tree.specs.declared.policy.PolicyKind.{PolicyKind}
use Rattle.policy_tree.specs.declared.policy.PolicyKind.TheVariants as kind_is
use Rattle.policy_tree.specs.declared.policy.Join.{Join}
use Rattle.policy_tree.specs.declared.policy.Join.TheVariants as join_is
use Rattle.policy_tree.specs.declared.policy.Leaf.{Leaf}
use Rattle.policy_tree.specs.declared.policy.Leaf.TheVariants as leaf_is
use Rattle.policy_tree.specs.declared.policy.Wanted.{Wanted}
use Rattle.policy_tree.specs.declared.policy.Wanted.TheVariants.{StringAmong, StringMatching, NumberWithin, Boolean}
use Rattle.ottl_text.specs.declared.expression.ErrorMode.{ErrorMode}
use Rattle.ottl_text.specs.declared.expression.ErrorMode.TheVariants as mode_is
use Rattle.config_faults.specs.Composites.{is_text}
use Rattle.tsc_config.specs.HeaderFields.{headers_of}
use Rattle.tsc_config.specs.PolicyOrder.{found_before, ordered}
use Rattle.config_faults.specs.Faults.{order_fault}
use Rattle.config_faults.specs.Percentages.{percentage_of}
use Rattle.config_faults.specs.Tables.{NumberRow, number_row, ChoiceRow, choice_row}
use Rattle.config_faults.specs.PolicyTypes.{type_name}
use Rattle.config_faults.specs.Keys.{type_at, code_of, join_name, sub_key, join_at}
use Rattle.config_faults.specs.declared.tables.ChoiceKey.TheVariants as choice_is
use Rattle.config_faults.specs.declared.tables.NumberKey.TheVariants as number_is
use Rattle.config_faults.specs.declared.fault.ConfigFault.{ConfigFault}
use Rattle.config_faults.specs.declared.policy_types.PolicyType.{PolicyType}
use Rattle.config_faults.specs.declared.policy_types.PolicyType.TheVariants as type_is
use Rattle.tsc_config.specs.declared.config.Config.{Config}
use Rattle.tsc_config.specs.declared.log_form.LogForm.{LogForm}
use Rattle.tsc_config.specs.declared.log_form.LogForm.TheVariants as log_is
use Rattle.tsc_config.specs.declared.output_fault.OutputFault.{OutputFault}
use Rattle.tsc_config.specs.declared.output_fault.OutputFault.TheVariants as output_is
use Rattle.tsc_config.specs.declared.exports.Export.{Export}
use Rattle.tsc_config.specs.declared.exports.ExportEncoding.{ExportEncoding}
use Rattle.tsc_config.specs.declared.exports.ExportEncoding.TheVariants as encoding_is
use Rattle.tsc_config.specs.declared.ledger.Ledger.{Ledger}
use Rattle.tsc_config.specs.declared.ledger.LedgerSync.{LedgerSync}
use Rattle.tsc_config.specs.declared.ledger.LedgerSync.TheVariants as sync_is

-- the number of a value, within the bounds of this row; any other value counts as absent
abbrev pub bounded_value : NumberRow → Data → ℕ
bounded_value row (integer (pos number)) = if nat_le row.lowest number && nat_le number row.greatest then number else row.default
bounded_value row _ = row.default

-- the number of what stands at a key of this row
abbrev pub bounded_of : NumberRow → Option Data → ℕ
bounded_of row None = row.default
bounded_of row (Some value) = bounded_value row value

-- the number of a table at the key of this row
abbrev pub number_by : NumberRow → Members → ℕ
number_by row members = bounded_of row (get_member row.name members)

-- a number that is at least 0
abbrev pub natural_value : Data → ℕ
natural_value (integer (pos number)) = number
natural_value _ = 0

-- the number at a key, at least 0
abbrev pub natural_of : Option Data → ℕ
natural_of None = 0
natural_of (Some value) = natural_value value

-- what stands at the first of two keys, and where nothing does, at the second
abbrev pub first_found : Option Data → Option Data → Option Data
first_found None second = second
first_found (Some value) second = Some value

-- the wait from a trace's root on, at whichever of its two names it stands
abbrev pub root_wait_of : Members → ℕ
root_wait_of members = bounded_of (number_row number_is.RootWait) (first_found (get_member (number_row number_is.RootWait).name members) (get_member (number_row number_is.RootReceived).name members))

-- the number of this row in a table of sizes
abbrev pub size_in : NumberRow → Data → ℕ
size_in row (table sizes) = number_by row sizes
size_in row _ = row.default

-- the same in the table at a key
abbrev pub cache_size : NumberRow → Option Data → ℕ
cache_size row None = row.default
cache_size row (Some value) = size_in row value

-- the bytes of a text
abbrev pub text_value : Data → List ℕ
text_value (string text) = text
text_value _ = []

-- the bytes of the text at a key
abbrev pub text_of : Option Data → List ℕ
text_of None = []
text_of (Some value) = text_value value

-- the bytes of the text at a key, or its default
abbrev pub address_of : (default : List ℕ) → Option Data → List ℕ
address_of default None = default
address_of default (Some value) = text_value value

-- the other text of a row, and not that by default, stands at a key
abbrev pub is_other : ChoiceRow → Option Data → Bool
is_other row (Some (string text)) = bytes_eq text row.other
is_other row _ = false

-- the form of the log that a text names
abbrev pub log_form_named : (text : List ℕ) → LogForm
log_form_named text = if bytes_eq text (codes "json") then log_is.Json else if bytes_eq text (codes "off") then log_is.Off else log_is.Text

-- the form of the log by what stands at its key
abbrev pub log_form_of : Option Data → LogForm
log_form_of (Some (string text)) = log_form_named text
log_form_of _ = log_is.Text

-- what is done once the output fails, as a text names it
abbrev pub output_fault_named : (text : List ℕ) → OutputFault
output_fault_named text = if bytes_eq text (codes "stop") then output_is.Stop else if bytes_eq text (codes "retry") then output_is.Retry else output_is.Discard

-- the same by what stands at its key
abbrev pub output_fault_of : Option Data → OutputFault
output_fault_of (Some (string text)) = output_fault_named text
output_fault_of _ = output_is.Discard

-- the items of the array at a key, none where there is no array
abbrev pub items_at : Option Data → Items
items_at at = unwrap_or (option_and_then as_array at) no_items

-- the status codes that items name, in order
abbrev pub item_codes : Items → List ℤ
item_codes no_items = []
item_codes (item value rest) = found_before (code_of value) (item_codes rest)

-- the status codes of the array at a key
abbrev pub codes_of : Option Data → List ℤ
codes_of at = item_codes (items_at at)

-- a whole number
abbrev pub whole_value : (default : ℤ) → Data → ℤ
whole_value default (integer number) = number
whole_value default _ = default

-- the whole number at a key
abbrev pub whole_of : (default : ℤ) → Option Data → ℤ
whole_of default None = default
whole_of default (Some value) = whole_value default value

-- a truth value
abbrev pub truth_value : Data → Bool
truth_value (boolean value) = value
truth_value _ = false

-- the truth value at a key
abbrev pub truth_of : Option Data → Bool
truth_of None = false
truth_of (Some value) = truth_value value

-- the texts among items, in order
abbrev pub item_texts : Items → List (List ℕ)
item_texts no_items = []
item_texts (item value rest) = found_before (as_str value) (item_texts rest)

-- the texts of the array at a key
abbrev pub texts_of : Option Data → List (List ℕ)
texts_of at = item_texts (items_at at)

-- the salt of a text: an empty one counts as absent
abbrev pub salt_by : List ℕ → List ℕ
salt_by [] = codes "default-hash-seed"
salt_by (first ∷ rest) = first ∷ rest

-- the percentage at a key, in ten-thousandths of a percent
abbrev pub percentage_at : Option Data → ℕ
percentage_at at = unwrap_or (option_and_then percentage_of at) 0

-- the attribute policy of settings, with what is wanted of the value
abbrev pub attribute : Members → Wanted → Leaf
attribute members wanted = leaf_is.Attribute (text_of (get_member (codes "key") members)) wanted (truth_of (get_member (codes "invert_match") members))

-- one of these texts is wanted, or one in which one of them as a regular expression has a match
abbrev pub texts_wanted : (are_expressions : Bool) → List (List ℕ) → Wanted
texts_wanted false values = StringAmong values
texts_wanted true values = StringMatching values

-- the texts of settings, which are regular expressions where `enabled_regex_matching` is set (tailsamplingprocessor
-- README, `string_attribute`)
abbrev pub text_wanted : Members → Wanted
text_wanted members = texts_wanted (truth_of (get_member (codes "enabled_regex_matching") members)) (texts_of (get_member (codes "values") members))

-- what an error of a condition does, as a text names it
abbrev pub error_mode_named : (text : List ℕ) → ErrorMode
error_mode_named text = if bytes_eq text (codes "silent") then mode_is.Silent else if bytes_eq text (codes "propagate") then mode_is.Propagate else mode_is.Ignore

-- the same by what stands at its key
abbrev pub error_mode_of : Option Data → ErrorMode
error_mode_of (Some (string text)) = error_mode_named text
error_mode_of _ = mode_is.Ignore

-- the bounds of a wanted number
abbrev pub number_wanted : Members → Wanted
number_wanted members = NumberWithin (whole_of (negsuc 9223372036854775807) (get_member (codes "min_value") members)) (whole_of (pos 9223372036854775807) (get_member (codes "max_value") members))

-- what a policy of this type samples by its settings, where it has no parts and asks no limiter
unfoldable pub leaf_in : PolicyType → Members → Leaf
leaf_in type_is.Latency members = leaf_is.Latency (natural_of (get_member (codes "threshold_ms") members)) (natural_of (get_member (codes "upper_threshold_ms") members))
leaf_in type_is.StatusCode members = leaf_is.StatusCode (codes_of (get_member (codes "status_codes") members))
leaf_in type_is.StringAttribute members = attribute members (text_wanted members)
leaf_in type_is.NumericAttribute members = attribute members (number_wanted members)
leaf_in type_is.BooleanAttribute members = attribute members (Boolean (truth_of (get_member (codes "value") members)))
leaf_in type_is.SpanCount members = leaf_is.SpanCount (natural_of (get_member (codes "min_spans") members)) (natural_of (get_member (codes "max_spans") members))
leaf_in type_is.Probabilistic members = leaf_is.Probabilistic (salt_by (text_of (get_member (codes "hash_salt") members))) (percentage_at (get_member (codes "sampling_percentage") members))
leaf_in type_is.TraceState members = leaf_is.TraceState (text_of (get_member (codes "key") members)) (texts_of (get_member (codes "values") members))
leaf_in type_is.OttlCondition members = leaf_is.OttlCondition (error_mode_of (get_member (codes "error_mode") members)) (texts_of (get_member (codes "span") members)) (texts_of (get_member (codes "spanevent") members))
leaf_in _ _ = leaf_is.AlwaysSample

-- the number at a key, at least 0, or its default
abbrev pub number_value : (default : ℕ) → Data → ℕ
number_value default (integer (pos number)) = number
number_value default _ = default

abbrev pub number_or : (default : ℕ) → Option Data → ℕ
number_or default None = default
number_or default (Some value) = number_value default value

-- a bucket of bytes, which holds twice as many as come back with each second, at most 2^63-1, where it isn't told how
-- many (tailsamplingprocessor README, `bytes_limiting`)
abbrev pub bucket : (per_second : ℕ) → (burst : Option Data) → Limit
bucket per_second burst = Bytes per_second (number_or (min (per_second * 2) 9223372036854775807) burst)

-- the limit of bytes of settings
abbrev pub bytes_limit : Members → Limit
bytes_limit members = bucket (natural_of (get_member (codes "bytes_per_second") members)) (get_member (codes "burst_capacity") members)

-- what a policy of this type samples by its settings
abbrev pub kind_in : PolicyType → Members → PolicyKind
kind_in type_is.RateLimiting members = kind_is.Limiting (Spans (natural_of (get_member (codes "spans_per_second") members)))
kind_in type_is.BytesLimiting members = kind_is.Limiting (bytes_limit members)
kind_in kind members = kind_is.Leaf (leaf_in kind members)

-- every trace is sampled
abbrev pub always : PolicyKind
always = kind_is.Leaf leaf_is.AlwaysSample

-- what it samples by its settings, where they are a table
abbrev pub kind_of : PolicyType → Data → PolicyKind
kind_of kind (table members) = kind_in kind members
kind_of kind _ = always

-- what it samples by the value at the key of its settings
abbrev pub kind_by : PolicyType → Option Data → PolicyKind
kind_by kind None = always
kind_by kind (Some value) = kind_of kind value

-- a percentage from 1 to 100
abbrev pub percent_value : Option Data → Option ℕ
percent_value (Some (integer (pos number))) = if nat_le 1 number && nat_le number 100 then Some number else None
percent_value _ = None

-- the percentage of the part of that name, by the item that tells it
abbrev pub percent_by : (name : List ℕ) → Data → Option ℕ
percent_by name (table members) = if is_text name (get_member (codes "policy") members) then percent_value (get_member (codes "percent") members) else None
percent_by name _ = None

-- the first of two, where it is there
abbrev pub first_percent : Option ℕ → Option ℕ → Option ℕ
first_percent None second = second
first_percent (Some percent) second = Some percent

-- by the first of these items that tells it
abbrev pub percent_among : (name : List ℕ) → Items → Option ℕ
percent_among name no_items = None
percent_among name (item value rest) = first_percent (percent_by name value) (percent_among name rest)

-- a percentage of the total, rounded down, or one of `count` equal shares
abbrev pub share_limit : (total count : ℕ) → (percent : Option ℕ) → ℕ
share_limit total count None = total / max count 1
share_limit total count (Some percent) = total * percent / 100

-- a name for a limiter beside a policy, which isn't that policy's
abbrev pub beside : (name : List ℕ) → List ℕ
beside [] = codes "limit"
beside (first ∷ rest) = []

-- the limiter of a part
abbrev pub limiter_beside : (limit : ℕ) → (name : List ℕ) → Policy
limiter_beside limit name = record { name = beside name; kind = kind_is.Limiting (Spans limit) }

-- a part, one of `count`, within its share of the total in spans per second
abbrev pub within_share : (total count : ℕ) → (allocations : Items) → Policy → Policy
within_share total count allocations part =
    record { name = part.name; kind = kind_is.Joined join_is.Share (part ∷ limiter_beside (share_limit total count (percent_among part.name allocations)) part.name ∷ []) }

-- what stands at a key, where there is no fault
abbrev pub found_unless : Option ConfigFault → Option Data → Option Data
found_unless None at = at
found_unless (Some fault) at = None

-- the order of a composite with these settings; one with a fault counts for nothing
abbrev pub order_of : Members → Option Data
order_of settings = found_unless (order_fault join_is.FirstMatch settings) (get_member (codes "policy_order") settings)

-- the parts of a composite with these settings, as they are asked, each within its share
abbrev pub shares_of : Members → List Policy → List Policy
shares_of settings parts =
    map (within_share (natural_of (get_member (codes "max_total_spans_per_second") settings)) (length parts) (items_at (get_member (codes "rate_allocation") settings))) (ordered (order_of settings) parts)

-- the same by the value at the key of its settings
abbrev pub composite_of : Option Data → List Policy → List Policy
composite_of (Some (table settings)) parts = shares_of settings parts
composite_of _ parts = []

-- what a policy of this type samples, with these policies where it is made of others
abbrev pub kind_typed : Option PolicyType → Members → (nested : List Policy) → PolicyKind
kind_typed None _ nested = always
kind_typed (Some type_is.And) _ nested = kind_is.Joined join_is.And nested
kind_typed (Some type_is.Not) _ nested = kind_is.Joined join_is.Not nested
kind_typed (Some type_is.Drop) _ nested = kind_is.Joined join_is.Drop nested
kind_typed (Some type_is.Composite) members nested = kind_is.Joined join_is.FirstMatch (composite_of (get_member (codes "composite") members) nested)
kind_typed (Some type_is.TraceFlags) _ nested = kind_is.Leaf leaf_is.TraceFlags
kind_typed (Some kind) members nested = kind_by kind (get_member (type_name kind) members)

-- the policy of a table, with these policies where it is made of others
unfoldable pub policy_of : Members → (nested : List Policy) → Policy
policy_of members nested = record { name = text_of (get_member (codes "name") members); kind = kind_typed (type_at members) members nested }

abbrev mutual
  -- the policies of an array
  pub policies_value : Data → List Policy
  policies_value (array items) = item_policies items
  policies_value _ = []

  -- the policies of items, in order
  pub item_policies : Items → List Policy
  item_policies no_items = []
  item_policies (item value rest) = found_before (policy_value value) (item_policies rest)

  -- the policy of a value that is a table
  pub policy_value : Data → Option Policy
  policy_value (table members) = Some (policy_of members (parts_policies (join_at members) members))
  policy_value _ = None

  -- the policies that are joined so, of a policy table
  pub parts_policies : Join → Members → List Policy
  parts_policies join no_members = []
  parts_policies join (member key value rest) = if bytes_eq key (join_name join) then parts_settings join value else parts_policies join rest

  -- those of the settings of such a policy
  pub parts_settings : Join → Data → List Policy
  parts_settings join (table members) = sub_policies join members
  parts_settings join _ = []

  -- those at their key in these settings
  pub sub_policies : Join → Members → List Policy
  sub_policies join no_members = []
  sub_policies join (member key value rest) = if bytes_eq key (sub_key join) then sub_value join value else sub_policies join rest

  -- those of an array, or of a `not` that of one table
  pub sub_value : Join → Data → List Policy
  sub_value join_is.And (array items) = item_policies items
  sub_value join_is.Not (table members) = policy_of members (parts_policies (join_at members) members) ∷ []
  sub_value join_is.Drop (array items) = item_policies items
  sub_value join_is.FirstMatch (array items) = item_policies items
  sub_value _ _ = []

-- the policies of the array at a key
abbrev pub policies_of : Option Data → List Policy
policies_of None = []
policies_of (Some value) = policies_value value

-- one policy that is made of these, of which the first match decides
abbrev pub first_match : List Policy → Policy
first_match policies = record { name = []; kind = kind_is.Joined join_is.FirstMatch policies }

-- the policies, or with `sample_on_first_match` the one that is made of them
abbrev pub matched : Bool → List Policy → List Policy
matched false policies = policies
matched true policies = first_match policies ∷ []

-- the policies of a table
abbrev pub policies_given : Members → List Policy
policies_given members = matched (truth_of (get_member (codes "sample_on_first_match") members)) (policies_of (get_member (codes "policies") members))

-- the numbers of a configuration are of use: none is 0, there is a trace for each shard, and lanes and shards are few
abbrev pub InRange : Config → Type 0
InRange config = record {
  waits : 0 < config.decision_wait;
  keeps : 0 < config.num_traces;
  some_lane : 0 < config.lanes;
  few_lanes : config.lanes ≤ 64;
  some_shard : 0 < config.shards;
  few_shards : config.shards ≤ 64;
  each_keeps : config.shards ≤ config.num_traces;
  queue : 0 < config.queue_capacity;
  export : 0 < config.export_capacity;
  batch : 0 < config.send_batch_size;
  connections : 0 < config.max_connections;
  ticks : 0 < config.tick;
}

-- how batches are sent, by whether it is otherwise than by default
abbrev pub encoding_by : (is_other : Bool) → ExportEncoding
encoding_by false = encoding_is.Json
encoding_by true = encoding_is.Protobuf

-- the same by the table of `export`
abbrev pub encoding_of : Members → ExportEncoding
encoding_of members = encoding_by (is_other (choice_row choice_is.Encoding) (get_member (choice_row choice_is.Encoding).name members))

-- what the table of `export` gives
abbrev pub export_in : Members → Export
export_in members = record {
  endpoint = text_of (get_member (codes "endpoint") members);
  timeout = number_by (number_row number_is.Timeout) members;
  retry_initial = number_by (number_row number_is.RetryInitial) members;
  retry_max = number_by (number_row number_is.RetryMax) members;
  retry_for = number_by (number_row number_is.RetryFor) members;
  close_wait = number_by (number_row number_is.CloseWait) members;
  queue_batches = number_by (number_row number_is.QueueBatches) members;
  lines = truth_of (get_member (codes "lines") members);
  encoding = encoding_of members;
  headers = headers_of (get_member (codes "headers") members);
}

abbrev pub export_value : Data → Export
export_value (table members) = export_in members
export_value _ = export_in no_members

-- what stands at `export`, where nothing is as an empty table
abbrev pub export_of : Option Data → Export
export_of None = export_in no_members
export_of (Some value) = export_value value

-- when the ledger is synced, as a text names it
abbrev pub ledger_sync_named : (text : List ℕ) → LedgerSync
ledger_sync_named text = if bytes_eq text (codes "interval") then sync_is.Interval else if bytes_eq text (codes "request") then sync_is.Request else sync_is.None

-- the same by what stands at its key
abbrev pub ledger_sync_of : Option Data → LedgerSync
ledger_sync_of (Some (string text)) = ledger_sync_named text
ledger_sync_of _ = sync_is.None

-- what the table of `ledger` gives
abbrev pub ledger_in : Members → Ledger
ledger_in members = record {
  path = text_of (get_member (codes "path") members);
  sync = ledger_sync_of (get_member (codes "sync") members);
  sync_interval_ms = number_by (number_row number_is.SyncInterval) members;
  max_mib = number_by (number_row number_is.LedgerMax) members;
}

abbrev pub ledger_value : Data → Ledger
ledger_value (table members) = ledger_in members
ledger_value _ = ledger_in no_members

-- what stands at `ledger`, where nothing is as an empty table
abbrev pub ledger_of : Option Data → Ledger
ledger_of None = ledger_in no_members
ledger_of (Some value) = ledger_value value

-- the configuration of a table
abbrev pub config_of : Members → Config
config_of members = record {
  decision_wait = number_by (number_row number_is.DecisionWait) members;
  root_wait = root_wait_of members;
  num_traces = number_by (number_row number_is.NumTraces) members;
  sampled_cache_size = cache_size (number_row number_is.SampledCacheSize) (get_member (codes "decision_cache") members);
  non_sampled_cache_size = cache_size (number_row number_is.NonSampledCacheSize) (get_member (codes "decision_cache") members);
  policies = policies_given members;
  lanes = number_by (number_row number_is.Lanes) members;
  shards = number_by (number_row number_is.Shards) members;
  queue_capacity = number_by (number_row number_is.QueueCapacity) members;
  export_capacity = number_by (number_row number_is.ExportCapacity) members;
  send_batch_size = number_by (number_row number_is.SendBatchSize) members;
  max_connections = number_by (number_row number_is.MaxConnections) members;
  memory_limit_mib = number_by (number_row number_is.MemoryLimit) members;
  max_request_mib = number_by (number_row number_is.MaxRequest) members;
  maximum_trace_size = number_by (number_row number_is.MaximumTraceSize) members;
  tick = number_by (number_row number_is.Tick) members;
  listen = address_of (codes "127.0.0.1:4318") (get_member (codes "listen") members);
  admin = address_of [] (get_member (codes "admin") members);
  metrics = address_of [] (get_member (codes "metrics") members);
  output = address_of [] (get_member (codes "output") members);
  output_max_mib = number_by (number_row number_is.OutputMax) members;
  output_keep = number_by (number_row number_is.OutputKeep) members;
  decisions = address_of [] (get_member (codes "decisions") members);
  decisions_max_mib = number_by (number_row number_is.DecisionsMax) members;
  request_record = address_of [] (get_member (codes "record") members);
  record_max_mib = number_by (number_row number_is.RecordMax) members;
  record_policy = truth_of (get_member (codes "record_policy") members);
  log = log_form_of (get_member (codes "log") members);
  accept_gzip = truth_of (get_member (codes "accept_gzip") members);
  accept_protobuf = truth_of (get_member (codes "accept_protobuf") members);
  waits_for_room = is_other (choice_row choice_is.QueueFull) (get_member (choice_row choice_is.QueueFull).name members);
  output_fault = output_fault_of (get_member (codes "output_fault") members);
  keeps_doubles = is_other (choice_row choice_is.DoubleValues) (get_member (choice_row choice_is.DoubleValues).name members);
  close_at_end_of_input = truth_of (get_member (codes "close_at_end_of_input") members);
  export = export_of (get_member (codes "export") members);
  ledger = ledger_of (get_member (codes "ledger") members);
}
