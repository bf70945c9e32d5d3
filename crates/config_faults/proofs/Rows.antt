-- The numbers of a configuration's settings, computed on the definitions: each key's range, and what lies just outside.
-- No clause needs them: they show what the words of `Faults` say, which code and contracts follow. The table below
-- repeats no definition.
use Rattle.std.specs.Prelude.{◌≡◌, ℕ, ℤ, pos, negsuc, true, false, List, [], ◌∷◌, map, codes, Option, Some, None, refl}
use lib.Ieee.{to_unsigned, of_int, mul, div, eq}
use Rattle.std.specs.Float.{Float, nan, inf, fin, round_with}
use Rattle.toml.specs.Data.{Data, string, integer, boolean, array, table, Items, no_items, item, Members, no_members, member}
use Rattle.httparse.specs.Grammar.{is_token_byte}
use Rattle.http1.specs.Text.{eq_ignore_case}
use Rattle.config_faults.specs.Composites.{is_order}
use Rattle.config_faults.specs.Exports.{is_endpoint}
use Rattle.config_faults.specs.Faults.{config_fault_number, each_setting_fault, cache_fault, ledger_fault, rows_fault, twice_fault}
use Rattle.config_faults.specs.Headers.{may_be_sent}
use Rattle.config_faults.specs.PolicyTypes.{all_types, type_name}
use Rattle.config_faults.specs.Keys.{is_key, is_setting, type_named}
use Rattle.config_faults.specs.Percentages.{ten_thousandths, percentage_of}
use Rattle.config_faults.specs.Tables.{top_settings, export_settings}
use Rattle.config_faults.specs.declared.fault.ConfigFault.{ConfigFault}
use Rattle.config_faults.specs.declared.fault.ConfigFault.TheVariants.{NotToml, UnknownKey, MissingKey, WrongType, OutOfRange, TooFewTraces, NoMemory, NotAnExpression, ExpressionTooBig}
use Rattle.config_faults.specs.declared.policy_types.PolicyType.{PolicyType}
use Rattle.config_faults.specs.declared.policy_types.PolicyType.TheVariants as type_is
use Rattle.config_faults.specs.declared.keys.TableKind.TheVariants as table_is

-- a key, the least number and the greatest that it may have, and the one below the least
pub record Range : Type 0 where
  pub key : List ℕ
  pub below : ℤ
  pub lowest : ℕ
  pub greatest : ℕ
  pub above : ℕ

-- the keys of the table, in the order of the tailsamplingprocessor README and then this project's own
abbrev pub ranges : List Range
ranges =
    record { key = codes "decision_wait_ms"; below = pos 0; lowest = 1; greatest = 3600000; above = 3600001 }
    ∷ record { key = codes "root_wait_ms"; below = negsuc 0; lowest = 0; greatest = 3600000; above = 3600001 }
    ∷ record { key = codes "decision_wait_after_root_received_ms"; below = negsuc 0; lowest = 0; greatest = 3600000; above = 3600001 }
    ∷ record { key = codes "num_traces"; below = pos 0; lowest = 1; greatest = 1000000; above = 1000001 }
    ∷ record { key = codes "lanes"; below = pos 0; lowest = 1; greatest = 64; above = 65 }
    ∷ record { key = codes "shards"; below = pos 0; lowest = 1; greatest = 64; above = 65 }
    ∷ record { key = codes "queue_capacity"; below = pos 0; lowest = 1; greatest = 65536; above = 65537 }
    ∷ record { key = codes "export_capacity"; below = pos 0; lowest = 1; greatest = 65536; above = 65537 }
    ∷ record { key = codes "send_batch_size"; below = pos 0; lowest = 1; greatest = 8192; above = 8193 }
    ∷ record { key = codes "max_connections"; below = pos 0; lowest = 1; greatest = 65536; above = 65537 }
    ∷ record { key = codes "memory_limit_mib"; below = negsuc 0; lowest = 0; greatest = 1048576; above = 1048577 }
    ∷ record { key = codes "max_request_mib"; below = pos 0; lowest = 1; greatest = 64; above = 65 }
    ∷ record { key = codes "maximum_trace_size_bytes"; below = negsuc 0; lowest = 0; greatest = 1073741824; above = 1073741825 }
    ∷ record { key = codes "output_max_mib"; below = negsuc 0; lowest = 0; greatest = 1048576; above = 1048577 }
    ∷ record { key = codes "output_keep"; below = pos 0; lowest = 1; greatest = 1000; above = 1001 }
    ∷ record { key = codes "decisions_max_mib"; below = negsuc 0; lowest = 0; greatest = 1048576; above = 1048577 }
    ∷ record { key = codes "record_max_mib"; below = negsuc 0; lowest = 0; greatest = 1048576; above = 1048577 }
    ∷ record { key = codes "tick_ms"; below = pos 0; lowest = 1; greatest = 60000; above = 60001 }
    ∷ []

-- those of the table `decision_cache`
abbrev pub cache_ranges : List Range
cache_ranges =
    record { key = codes "sampled_cache_size"; below = negsuc 0; lowest = 0; greatest = 1000000; above = 1000001 }
    ∷ record { key = codes "non_sampled_cache_size"; below = negsuc 0; lowest = 0; greatest = 1000000; above = 1000001 }
    ∷ []

-- those of the table `ledger`
abbrev pub ledger_ranges : List Range
ledger_ranges =
    record { key = codes "sync_interval_ms"; below = pos 0; lowest = 1; greatest = 60000; above = 60001 }
    ∷ record { key = codes "max_mib"; below = pos 0; lowest = 1; greatest = 1048576; above = 1048577 }
    ∷ []

-- a table with one key
abbrev pub one_key : List ℕ → ℤ → Members
one_key key number = member key (integer number) no_members

-- the fault of a number at a key, of one at a key of `decision_cache`, and of one at a key of `ledger` beside a path
abbrev fault_at : List ℕ → ℤ → Option ConfigFault
fault_at key number = each_setting_fault top_settings (one_key key number)

abbrev cache_fault_at : List ℕ → ℤ → Option ConfigFault
cache_fault_at key number = cache_fault (table (one_key key number))

abbrev ledger_fault_at : List ℕ → ℤ → Option ConfigFault
ledger_fault_at key number = ledger_fault (table (member (codes "path") (string (codes "d")) (one_key key number)))

abbrev each : {A : Type 0} → A → List Range → List A
each a rows = map (λ row. a) rows

lowest_allowed : map (λ (r : Range). fault_at r.key (pos r.lowest)) ranges ≡ each None ranges
lowest_allowed = refl

greatest_allowed : map (λ (r : Range). fault_at r.key (pos r.greatest)) ranges ≡ each None ranges
greatest_allowed = refl

below_refused : map (λ (r : Range). fault_at r.key r.below) ranges ≡ each (Some OutOfRange) ranges
below_refused = refl

above_refused : map (λ (r : Range). fault_at r.key (pos r.above)) ranges ≡ each (Some OutOfRange) ranges
above_refused = refl

cache_lowest_allowed : map (λ (r : Range). cache_fault_at r.key (pos r.lowest)) cache_ranges ≡ each None cache_ranges
unfolding is_key
cache_lowest_allowed = refl

cache_greatest_allowed : map (λ (r : Range). cache_fault_at r.key (pos r.greatest)) cache_ranges ≡ each None cache_ranges
unfolding is_key
cache_greatest_allowed = refl

cache_below_refused : map (λ (r : Range). cache_fault_at r.key r.below) cache_ranges ≡ each (Some OutOfRange) cache_ranges
unfolding is_key
cache_below_refused = refl

cache_above_refused : map (λ (r : Range). cache_fault_at r.key (pos r.above)) cache_ranges ≡ each (Some OutOfRange) cache_ranges
unfolding is_key
cache_above_refused = refl

ledger_lowest_allowed : map (λ (r : Range). ledger_fault_at r.key (pos r.lowest)) ledger_ranges ≡ each None ledger_ranges
unfolding is_key
ledger_lowest_allowed = refl

ledger_greatest_allowed : map (λ (r : Range). ledger_fault_at r.key (pos r.greatest)) ledger_ranges ≡ each None ledger_ranges
unfolding is_key
ledger_greatest_allowed = refl

ledger_below_refused : map (λ (r : Range). ledger_fault_at r.key r.below) ledger_ranges ≡ each (Some OutOfRange) ledger_ranges
unfolding is_key
ledger_below_refused = refl

ledger_above_refused : map (λ (r : Range). ledger_fault_at r.key (pos r.above)) ledger_ranges ≡ each (Some OutOfRange) ledger_ranges
unfolding is_key
ledger_above_refused = refl

-- ---- choices

second_address_is_a_text : each_setting_fault top_settings (member (codes "admin") (integer (pos 4319)) no_members) ≡ Some WrongType
second_address_is_a_text = refl

-- a table with one text, a truth value, a number
abbrev pub one_text : (key text : List ℕ) → Members
one_text key text = member key (string text) no_members

-- the paths of the output, of the decisions and of the record, and the address of numbers alone: any text, and nothing
-- else
texts_of_any_form : map (each_setting_fault top_settings)
    (one_text (codes "output") [] ∷ one_text (codes "output") (codes "/var/log/tsc.jsonl") ∷ one_text (codes "decisions") [] ∷ one_text (codes "decisions") (codes "/var/log/decided.jsonl")
    ∷ one_text (codes "record") [] ∷ one_text (codes "record") (codes "/var/log/came.txt")
    ∷ one_text (codes "metrics") [] ∷ one_text (codes "metrics") (codes "127.0.0.1:9464")
    ∷ member (codes "output") (boolean true) no_members ∷ member (codes "decisions") (boolean true) no_members ∷ member (codes "record") (boolean true) no_members ∷ member (codes "metrics") (integer (pos 9464)) no_members ∷ [])
    ≡ None ∷ None ∷ None ∷ None ∷ None ∷ None ∷ None ∷ None ∷ Some WrongType ∷ Some WrongType ∷ Some WrongType ∷ Some WrongType ∷ []
texts_of_any_form = refl

choices_allowed : map (each_setting_fault top_settings) (no_members
    ∷ one_text (codes "queue_full") (codes "partial") ∷ one_text (codes "queue_full") (codes "retry")
    ∷ one_text (codes "output_fault") (codes "discard") ∷ one_text (codes "output_fault") (codes "stop") ∷ one_text (codes "output_fault") (codes "retry")
    ∷ one_text (codes "double_values") (codes "discard") ∷ one_text (codes "double_values") (codes "keep")
    ∷ member (codes "close_at_end_of_input") (boolean false) no_members ∷ member (codes "close_at_end_of_input") (boolean true) no_members ∷ [])
    ≡ None ∷ None ∷ None ∷ None ∷ None ∷ None ∷ None ∷ None ∷ None ∷ None ∷ []
choices_allowed = refl

log_forms : map (each_setting_fault top_settings)
    (one_text (codes "log") (codes "text") ∷ one_text (codes "log") (codes "json") ∷ one_text (codes "log") (codes "off") ∷ one_text (codes "log") (codes "Text") ∷ one_text (codes "log") [] ∷ member (codes "log") (boolean true) no_members ∷ [])
    ≡ None ∷ None ∷ None ∷ Some OutOfRange ∷ Some OutOfRange ∷ Some WrongType ∷ []
log_forms = refl

-- another text, an empty one, and one of another key
choices_refused : map (each_setting_fault top_settings) (one_text (codes "queue_full") (codes "Retry") ∷ one_text (codes "queue_full") [] ∷ one_text (codes "queue_full") (codes "stop")
    ∷ one_text (codes "output_fault") (codes "stops") ∷ one_text (codes "output_fault") [] ∷ one_text (codes "output_fault") (codes "partial")
    ∷ one_text (codes "double_values") (codes "kept") ∷ one_text (codes "double_values") [] ∷ one_text (codes "double_values") (codes "stop") ∷ [])
    ≡ Some OutOfRange ∷ Some OutOfRange ∷ Some OutOfRange ∷ Some OutOfRange ∷ Some OutOfRange ∷ Some OutOfRange ∷ Some OutOfRange ∷ Some OutOfRange ∷ Some OutOfRange ∷ []
choices_refused = refl

-- values of another type
choices_of_no_type : map (each_setting_fault top_settings) (member (codes "queue_full") (boolean true) no_members ∷ member (codes "output_fault") (integer (pos 1)) no_members ∷ member (codes "double_values") (boolean true) no_members
    ∷ one_text (codes "close_at_end_of_input") (codes "true") ∷ member (codes "close_at_end_of_input") (integer (pos 1)) no_members ∷ [])
    ≡ Some WrongType ∷ Some WrongType ∷ Some WrongType ∷ Some WrongType ∷ Some WrongType ∷ []
choices_of_no_type = refl

-- bodies packed by gzip, bodies in protobuf, and names of policies on spans: each or not, and nothing else
switches : map (each_setting_fault top_settings) (member (codes "accept_gzip") (boolean true) no_members ∷ member (codes "accept_protobuf") (boolean true) no_members
    ∷ member (codes "accept_protobuf") (boolean false) no_members ∷ member (codes "accept_protobuf") (integer (pos 1)) no_members ∷ one_text (codes "accept_protobuf") (codes "true")
    ∷ member (codes "record_policy") (boolean true) no_members ∷ member (codes "record_policy") (boolean false) no_members ∷ member (codes "record_policy") (integer (pos 1)) no_members ∷ one_text (codes "record_policy") (codes "true") ∷ [])
    ≡ None ∷ None ∷ None ∷ Some WrongType ∷ Some WrongType ∷ None ∷ None ∷ Some WrongType ∷ Some WrongType ∷ []
switches = refl

-- an address, and how lines are sent there: one of two texts, or nothing; another text, an empty one, one of another
-- key, and values of another type
abbrev sent_as : Data → Members
sent_as value = member (codes "encoding") value (one_text (codes "endpoint") (codes "http://h:1/p"))

encodings : map (each_setting_fault export_settings) (one_text (codes "endpoint") (codes "http://h:1/p") ∷ sent_as (string (codes "json")) ∷ sent_as (string (codes "proto"))
    ∷ sent_as (string (codes "protobuf")) ∷ sent_as (string (codes "JSON")) ∷ sent_as (string []) ∷ sent_as (string (codes "keep"))
    ∷ sent_as (boolean true) ∷ sent_as (integer (pos 1)) ∷ [])
    ≡ None ∷ None ∷ None ∷ Some OutOfRange ∷ Some OutOfRange ∷ Some OutOfRange ∷ Some OutOfRange ∷ Some WrongType ∷ Some WrongType ∷ []
encodings = refl

-- each stands in its own table
encoding_keys : is_key table_is.Export (codes "encoding") ∷ is_key table_is.Config (codes "encoding") ∷ is_key table_is.Config (codes "accept_protobuf") ∷ is_key table_is.Export (codes "accept_protobuf") ∷ []
    ≡ true ∷ false ∷ true ∷ false ∷ []
unfolding is_key
encoding_keys = refl

-- when the ledger is synced: one of three texts, or nothing; another text, an empty one, one of another key, and values of
-- another type
abbrev synced : Data → Data
synced value = table (member (codes "path") (string (codes "d")) (member (codes "sync") value no_members))

ledger_syncs : map ledger_fault (table (one_text (codes "path") (codes "d")) ∷ synced (string (codes "none")) ∷ synced (string (codes "interval")) ∷ synced (string (codes "request"))
    ∷ synced (string (codes "Request")) ∷ synced (string []) ∷ synced (string (codes "discard")) ∷ synced (boolean true) ∷ synced (integer (pos 1)) ∷ [])
    ≡ None ∷ None ∷ None ∷ None ∷ Some OutOfRange ∷ Some OutOfRange ∷ Some OutOfRange ∷ Some WrongType ∷ Some WrongType ∷ []
unfolding is_key
ledger_syncs = refl

-- a folder is wanted, which may be none; a table without one, one of another type, no table, and a key that isn't its own
ledger_folders : map ledger_fault (table (one_text (codes "path") []) ∷ table no_members ∷ table (one_text (codes "sync") (codes "none")) ∷ table (member (codes "path") (integer (pos 1)) no_members) ∷ string (codes "d")
    ∷ table (member (codes "path") (string (codes "d")) (one_text (codes "output") (codes "o"))) ∷ [])
    ≡ None ∷ Some MissingKey ∷ Some MissingKey ∷ Some WrongType ∷ Some WrongType ∷ Some UnknownKey ∷ []
unfolding is_key
ledger_folders = refl

ledger_keys : is_key table_is.Ledger (codes "sync") ∷ is_key table_is.Config (codes "sync") ∷ is_key table_is.Config (codes "ledger") ∷ is_key table_is.Ledger (codes "output") ∷ is_key table_is.Export (codes "max_mib") ∷ []
    ≡ true ∷ false ∷ true ∷ false ∷ false ∷ []
unfolding is_key
ledger_keys = refl

choice_keys : map (is_key table_is.Config) (codes "queue_full" ∷ codes "output_fault" ∷ codes "double_values" ∷ codes "close_at_end_of_input" ∷ codes "record_policy" ∷ codes "queue" ∷ []) ≡ true ∷ true ∷ true ∷ true ∷ true ∷ false ∷ []
unfolding is_key
choice_keys = refl

-- both names of the wait from a root on
abbrev root_waits : List Members
root_waits = one_key (codes "root_wait_ms") (pos 7) ∷ one_key (codes "decision_wait_after_root_received_ms") (pos 5) ∷ no_members ∷ []

both_names_refused : map twice_fault (member (codes "decision_wait_after_root_received_ms") (integer (pos 5)) (one_key (codes "root_wait_ms") (pos 7)) ∷ root_waits) ≡ Some UnknownKey ∷ None ∷ None ∷ None ∷ []
unfolding twice_fault
both_names_refused = refl

-- ---- settings of a policy

-- a type, its settings, and a key that is none of them
record Own : Type 0 where
  kind : PolicyType
  keys : List (List ℕ)
  other : List ℕ

abbrev own : List Own
own =
    record { kind = type_is.Latency; keys = codes "threshold_ms" ∷ codes "upper_threshold_ms" ∷ []; other = codes "threshold" }
    ∷ record { kind = type_is.StatusCode; keys = codes "status_codes" ∷ []; other = codes "codes" }
    ∷ record { kind = type_is.StringAttribute; keys = codes "key" ∷ codes "values" ∷ codes "invert_match" ∷ codes "enabled_regex_matching" ∷ codes "cache_max_size" ∷ []; other = codes "value" }
    ∷ record { kind = type_is.NumericAttribute; keys = codes "key" ∷ codes "min_value" ∷ codes "max_value" ∷ codes "invert_match" ∷ []; other = codes "value" }
    ∷ record { kind = type_is.BooleanAttribute; keys = codes "key" ∷ codes "value" ∷ codes "invert_match" ∷ []; other = codes "values" }
    ∷ record { kind = type_is.SpanCount; keys = codes "min_spans" ∷ codes "max_spans" ∷ []; other = codes "spans" }
    ∷ record { kind = type_is.RateLimiting; keys = codes "spans_per_second" ∷ []; other = codes "limit" }
    ∷ record { kind = type_is.BytesLimiting; keys = codes "bytes_per_second" ∷ codes "burst_capacity" ∷ []; other = codes "spans_per_second" }
    ∷ record { kind = type_is.Probabilistic; keys = codes "hash_salt" ∷ codes "sampling_percentage" ∷ []; other = codes "percentage" }
    ∷ record { kind = type_is.TraceState; keys = codes "key" ∷ codes "values" ∷ []; other = codes "invert_match" }
    ∷ record { kind = type_is.OttlCondition; keys = codes "error_mode" ∷ codes "span" ∷ codes "spanevent" ∷ []; other = codes "conditions" }
    ∷ record { kind = type_is.And; keys = codes "and_sub_policy" ∷ []; other = codes "policies" }
    ∷ record { kind = type_is.Not; keys = codes "not_sub_policy" ∷ []; other = codes "and_sub_policy" }
    ∷ record { kind = type_is.Drop; keys = codes "drop_sub_policy" ∷ []; other = codes "not_sub_policy" }
    ∷ record { kind = type_is.Composite; keys = codes "max_total_spans_per_second" ∷ codes "policy_order" ∷ codes "rate_allocation" ∷ codes "composite_sub_policy" ∷ []; other = codes "spans_per_second" }
    ∷ []

own_settings : map (λ (o : Own). map (is_setting o.kind) o.keys) own ≡ map (λ (o : Own). map (λ key. true) o.keys) own
own_settings = refl

other_keys : map (λ (o : Own). is_setting o.kind o.other) own ≡ map (λ o. false) own
other_keys = refl

abbrev pub matching : (key : List ℕ) → Data → Members
matching key value = member (codes "key") (string (codes "k")) (member (codes "values") (array (item (string (codes "a.")) (item (string (codes "b")) no_items))) (member key value no_members))

-- their values: true or false, and a whole number from 0 to 2^63-1
matching_ranges : map (λ (value : Data). rows_fault type_is.StringAttribute (matching (codes "enabled_regex_matching") value)) (boolean true ∷ boolean false ∷ integer (pos 1) ∷ []) ≡ None ∷ None ∷ Some WrongType ∷ []
matching_ranges = refl

size_ranges : map (λ (value : Data). rows_fault type_is.StringAttribute (matching (codes "cache_max_size") value)) (integer (pos 0) ∷ integer (pos 9223372036854775807) ∷ integer (negsuc 0) ∷ boolean true ∷ []) ≡ None ∷ None ∷ Some OutOfRange ∷ Some WrongType ∷ []
size_ranges = refl

burst_ranges : map (λ (value : Data). rows_fault type_is.BytesLimiting (member (codes "burst_capacity") value (member (codes "bytes_per_second") (integer (pos 1)) no_members))) (integer (pos 0) ∷ integer (pos 9223372036854775807) ∷ integer (negsuc 0) ∷ boolean true ∷ [])
    ≡ None ∷ None ∷ Some OutOfRange ∷ Some WrongType ∷ []
burst_ranges = refl

-- where a policy has no settings, a key is missing of each type that has a required one
missing_settings : map (λ (kind : PolicyType). rows_fault kind no_members) all_types
    ≡ None ∷ Some MissingKey ∷ Some MissingKey ∷ Some MissingKey ∷ Some MissingKey ∷ Some MissingKey ∷ Some MissingKey ∷ Some MissingKey ∷ Some MissingKey ∷ Some MissingKey ∷ Some MissingKey ∷ None ∷ None ∷ None ∷ None ∷ None ∷ Some MissingKey ∷ []
missing_settings = refl

-- each type by its name
types_named : map (λ (kind : PolicyType). type_named (type_name kind)) all_types ≡ map (λ (kind : PolicyType). Some kind) all_types
types_named = refl

-- ---- the numbers of the faults

fault_numbers : map config_fault_number (NotToml ∷ UnknownKey ∷ MissingKey ∷ WrongType ∷ OutOfRange ∷ TooFewTraces ∷ NoMemory ∷ NotAnExpression ∷ ExpressionTooBig ∷ []) ≡ 1 ∷ 2 ∷ 3 ∷ 4 ∷ 5 ∷ 6 ∷ 8 ∷ 9 ∷ 10 ∷ []
fault_numbers = refl

-- ---- percentages

-- the floats of 12.5, 0.0001, 33.3333, 99.9999, 100, 0 and 7.1
abbrev percentages : List Float
percentages =
    fin false 25 (negsuc 0)
    ∷ fin false 7378697629483821 (negsuc 65)
    ∷ fin false 4691244920594655 (negsuc 46)
    ∷ fin false 3518433690445991 (negsuc 44)
    ∷ fin false 25 (pos 2)
    ∷ fin false 0 (pos 0)
    ∷ fin false 3996944669291315 (negsuc 48)
    ∷ []

percentages_read : map ten_thousandths percentages ≡ Some 125000 ∷ Some 1 ∷ Some 333333 ∷ Some 999999 ∷ Some 1000000 ∷ Some 0 ∷ Some 71000 ∷ []
unfolding ten_thousandths round_with to_unsigned of_int mul div eq
percentages_read = refl

-- those of 12.34567, 100.0001, -0.0001, 0.00005 and 10 ^ 300, then no number and the infinities
abbrev no_percentages : List Float
no_percentages =
    fin false 6949994351454889 (negsuc 48)
    ∷ fin false 3518440727320409 (negsuc 44)
    ∷ fin true 7378697629483821 (negsuc 65)
    ∷ fin false 7378697629483821 (negsuc 66)
    ∷ fin false 1681218273811815 (pos 946)
    ∷ nan ∷ inf false ∷ inf true ∷ []

no_percentages_refused : map ten_thousandths no_percentages ≡ map (λ x. None) no_percentages
unfolding ten_thousandths round_with to_unsigned of_int mul div eq
no_percentages_refused = refl

whole_percentages : map (λ (n : ℤ). percentage_of (integer n)) (pos 0 ∷ pos 1 ∷ pos 100 ∷ pos 101 ∷ negsuc 0 ∷ []) ≡ Some 0 ∷ Some 10000 ∷ Some 1000000 ∷ None ∷ None ∷ []
whole_percentages = refl

-- ---- the names of the parts of a composite

abbrev named : List ℕ → Data
named name = table (member (codes "name") (string name) no_members)

abbrev listed : List Data → Items
listed [] = no_items
listed (first ∷ rest) = item first (listed rest)

-- a text for each of these letters
abbrev order_of : List ℕ → Items
order_of letters = listed (map (λ (letter : ℕ). string (letter ∷ [])) letters)

abbrev three_parts : Items
three_parts = listed (named (codes "a") ∷ named (codes "b") ∷ named (codes "c") ∷ [])

-- the names of three parts: in their order, and in others
orders : map (λ (letters : List ℕ). is_order (order_of letters) three_parts) (codes "abc" ∷ codes "cab" ∷ codes "bac" ∷ []) ≡ true ∷ true ∷ true ∷ []
orders = refl

-- a name twice in place of another, one twice beside all, one left out, one that no part has, in place of another and
-- beside all, and none
no_orders : map (λ (letters : List ℕ). is_order (order_of letters) three_parts) (codes "aba" ∷ codes "abca" ∷ codes "ca" ∷ codes "abd" ∷ codes "abcd" ∷ [] ∷ []) ≡ false ∷ false ∷ false ∷ false ∷ false ∷ false ∷ []
no_orders = refl

-- where two parts have the same name, which is a fault of its own, the order of the parts as they stand is one
doubled_parts : is_order (order_of (codes "aa")) (listed (named (codes "a") ∷ named (codes "a") ∷ [])) ∷ is_order no_items no_items ∷ [] ≡ true ∷ true ∷ []
doubled_parts = refl

-- the form of an address
an_address : is_endpoint (codes "http://h/") ≡ true
an_address = refl

no_path : is_endpoint (codes "http://h:4318") ≡ false
no_path = refl

no_host : is_endpoint (codes "http:///v1/traces") ≡ false
no_host = refl

other_scheme : is_endpoint (codes "https://h/v1") ≡ false
other_scheme = refl

-- fields that may be sent with each request, and such as may not: of a name that is no token, or that a request has of
-- its own, in whatever case; of a value with white space at an end, or a line feed
a_field : map (λ (name : List ℕ). may_be_sent name (codes "a b")) (codes "X-Tenant" ∷ codes "authorization" ∷ codes "" ∷ codes "a b" ∷ codes "Host" ∷ codes "content-Type" ∷ codes "CONTENT-LENGTH" ∷ [])
    ≡ true ∷ true ∷ false ∷ false ∷ false ∷ false ∷ false ∷ []
unfolding is_token_byte eq_ignore_case
a_field = refl

a_value : map (may_be_sent (codes "x")) ([] ∷ codes "Bearer abc" ∷ codes " a" ∷ codes "a " ∷ (97 ∷ 9 ∷ []) ∷ (97 ∷ 10 ∷ 98 ∷ []) ∷ (97 ∷ 13 ∷ 98 ∷ []) ∷ (195 ∷ 164 ∷ []) ∷ []) ≡ true ∷ true ∷ false ∷ false ∷ false ∷ false ∷ false ∷ true ∷ []
unfolding is_token_byte eq_ignore_case
a_value = refl

other_names : map (λ (name : List ℕ). may_be_sent name []) (codes "Content-Encoding" ∷ codes "Transfer-Encoding" ∷ codes "Connection" ∷ codes "Expect" ∷ codes "Upgrade" ∷ codes "X-Host" ∷ []) ≡ false ∷ false ∷ false ∷ false ∷ false ∷ true ∷ []
unfolding is_token_byte eq_ignore_case
other_names = refl
