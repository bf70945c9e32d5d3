-- The numbers of a configuration's settings, computed on the definitions: each key's default, and its least and
-- greatest number. No clause needs them: they show what the words of `Values` say, which code and contracts follow. The
-- table below repeats no definition.
use Rattle.std.specs.Prelude.{◌≡◌, ℕ, pos, Bool, true, false, List, [], ◌∷◌, map, length, codes, Some, None, refl}
use Rattle.toml.specs.Data.{Data, string, integer, boolean, array, table, Items, no_items, item, Members, no_members, member}
use Rattle.config_faults.proofs.Rows.{Range, ranges, cache_ranges, ledger_ranges, one_key, one_text, matching}
use Rattle.config_faults.specs.declared.policy_types.PolicyType.TheVariants as type_is
use Rattle.policy_tree.specs.declared.limit.Limit.TheVariants.{Bytes}
use Rattle.policy_tree.specs.declared.policy.Leaf.TheVariants as leaf_is
use Rattle.policy_tree.specs.declared.policy.Policy.{Policy}
use Rattle.policy_tree.specs.declared.policy.PolicyKind.TheVariants as kind_is
use Rattle.policy_tree.specs.declared.policy.Wanted.TheVariants.{StringAmong, StringMatching}
use Rattle.tsc_config.specs.Values.{config_of, leaf_in, salt_by, share_limit, percent_among, within_share, shares_of, bucket}
use Rattle.tsc_config.specs.declared.config.Config.{Config}
use Rattle.tsc_config.specs.declared.log_form.LogForm.TheVariants as log_is
use Rattle.tsc_config.specs.declared.output_fault.OutputFault.TheVariants as output_is
use Rattle.tsc_config.specs.declared.exports.Export.{Export}
use Rattle.tsc_config.specs.declared.exports.ExportEncoding.TheVariants as encoding_is
use Rattle.tsc_config.specs.declared.ledger.LedgerSync.TheVariants as sync_is

-- the numbers of a configuration: those of the table, of `decision_cache` and of `ledger`
abbrev numbers_of : Config → List ℕ
numbers_of c =
    c.decision_wait ∷ c.root_wait ∷ c.num_traces ∷ c.lanes ∷ c.shards ∷ c.queue_capacity ∷ c.export_capacity ∷ c.send_batch_size ∷ c.max_connections ∷ c.memory_limit_mib ∷ c.max_request_mib ∷ c.maximum_trace_size ∷ c.tick ∷ c.output_max_mib ∷ c.output_keep ∷ c.decisions_max_mib ∷ c.record_max_mib
    ∷ c.sampled_cache_size ∷ c.non_sampled_cache_size ∷ c.ledger.sync_interval_ms ∷ c.ledger.max_mib ∷ []

-- a table with all keys, each with one of its numbers
abbrev members_of : (Range → ℕ) → List Range → Members → Members
members_of number [] rest = rest
members_of number (r ∷ rows) rest = member r.key (integer (pos (number r))) (members_of number rows rest)

abbrev table_of : (Range → ℕ) → Members
table_of number = members_of number ranges (member (codes "decision_cache") (table (members_of number cache_ranges no_members)) (member (codes "ledger") (table (members_of number ledger_ranges no_members)) no_members))

defaults : numbers_of (config_of no_members) ≡ 30000 ∷ 0 ∷ 50000 ∷ 1 ∷ 1 ∷ 1024 ∷ 1024 ∷ 512 ∷ 1024 ∷ 0 ∷ 4 ∷ 0 ∷ 1000 ∷ 0 ∷ 7 ∷ 0 ∷ 0 ∷ 0 ∷ 0 ∷ 1000 ∷ 1024 ∷ []
defaults = refl

no_second_address_by_default : (config_of no_members).admin ≡ []
no_second_address_by_default = refl

second_address : (config_of (member (codes "admin") (string (codes "127.0.0.1:4319")) no_members)).admin ≡ codes "127.0.0.1:4319"
second_address = refl

listens_by_default : (config_of no_members).listen ≡ codes "127.0.0.1:4318"
listens_by_default = refl

-- the form of the log: by default, and by each of its texts
logs_by : map (λ members. (config_of members).log) (no_members ∷ one_text (codes "log") (codes "text") ∷ one_text (codes "log") (codes "json") ∷ one_text (codes "log") (codes "off") ∷ [])
    ≡ log_is.Text ∷ log_is.Text ∷ log_is.Json ∷ log_is.Off ∷ []
logs_by = refl

-- what is done once the output fails: by default, and by each of its texts
at_output_fault : map (λ members. (config_of members).output_fault)
    (no_members ∷ one_text (codes "output_fault") (codes "discard") ∷ one_text (codes "output_fault") (codes "stop") ∷ one_text (codes "output_fault") (codes "retry") ∷ [])
    ≡ output_is.Discard ∷ output_is.Discard ∷ output_is.Stop ∷ output_is.Retry ∷ []
at_output_fault = refl

-- the paths of the output, of the decisions and of the record, and the address of numbers alone: nothing by default, and
-- each by its own key
texts_of : Config → List (List ℕ)
texts_of c = c.output ∷ c.decisions ∷ c.request_record ∷ c.metrics ∷ c.admin ∷ []

own_texts : map (λ members. texts_of (config_of members))
    (no_members ∷ one_text (codes "output") (codes "a") ∷ one_text (codes "decisions") (codes "d") ∷ one_text (codes "record") (codes "e") ∷ one_text (codes "metrics") (codes "b") ∷ one_text (codes "admin") (codes "c") ∷ [])
    ≡ ([] ∷ [] ∷ [] ∷ [] ∷ [] ∷ [])
    ∷ (codes "a" ∷ [] ∷ [] ∷ [] ∷ [] ∷ []) ∷ ([] ∷ codes "d" ∷ [] ∷ [] ∷ [] ∷ []) ∷ ([] ∷ [] ∷ codes "e" ∷ [] ∷ [] ∷ [])
    ∷ ([] ∷ [] ∷ [] ∷ codes "b" ∷ [] ∷ []) ∷ ([] ∷ [] ∷ [] ∷ [] ∷ codes "c" ∷ []) ∷ []
unfolding texts_of
own_texts = refl

-- ten spans a second: one of three equal shares, a quarter, and all; and one share of none
shares : map (share_limit 10 3) (None ∷ Some 25 ∷ Some 100 ∷ []) ≡ 3 ∷ 2 ∷ 10 ∷ []
shares = refl

shares_of_none : share_limit 10 0 None ≡ 10
shares_of_none = refl

-- two items on one part, of which the first counts, and one beyond 100 percent
abbrev allocation : (name : List ℕ) → (percent : ℕ) → Data
allocation name percent = table (member (codes "policy") (string name) (member (codes "percent") (integer (pos percent)) no_members))

percentages_of_parts : map (λ (name : List ℕ). percent_among name (item (allocation (codes "a") 50) (item (allocation (codes "a") 40) (item (allocation (codes "b") 101) no_items)))) (codes "a" ∷ codes "b" ∷ codes "c" ∷ []) ≡ Some 50 ∷ None ∷ None ∷ []
percentages_of_parts = refl

-- three parts are asked as they stand, or as `policy_order` names them; each has the share that it has by its name
abbrev part : (letter : ℕ) → Policy
part letter = record { name = letter ∷ []; kind = kind_is.Leaf leaf_is.AlwaysSample }

abbrev texts : List ℕ → Items
texts [] = no_items
texts (letter ∷ rest) = item (string (letter ∷ [])) (texts rest)

abbrev shared : Members → Members
shared rest = member (codes "max_total_spans_per_second") (integer (pos 10)) (member (codes "rate_allocation") (array (item (allocation (codes "b") 50) no_items)) rest)

with_order : map (λ (order : List ℕ). shares_of (shared (member (codes "policy_order") (array (texts order)) no_members)) (map part (codes "abc"))) (codes "abc" ∷ codes "cab" ∷ codes "bca" ∷ [])
    ≡ map (λ (order : List ℕ). map (within_share 10 3 (item (allocation (codes "b") 50) no_items)) (map part order)) (codes "abc" ∷ codes "cab" ∷ codes "bca" ∷ [])
with_order = refl

without_order : shares_of (shared no_members) (map part (codes "bac")) ≡ map (within_share 10 3 (item (allocation (codes "b") 50) no_items)) (map part (codes "bac"))
without_order = refl

-- with `sample_on_first_match` one policy stands for the others
one_for_all : map (λ (first : Bool). length (config_of (member (codes "sample_on_first_match") (boolean first) (member (codes "policies") (array no_items) no_members))).policies) (true ∷ false ∷ []) ≡ 1 ∷ 0 ∷ []
one_for_all = refl

-- gzip is taken only where the key says so
takes_gzip : (config_of no_members).accept_gzip ∷ (config_of (member (codes "accept_gzip") (boolean true) no_members)).accept_gzip
    ∷ (config_of (member (codes "accept_gzip") (boolean false) no_members)).accept_gzip ∷ [] ≡ false ∷ true ∷ false ∷ []
takes_gzip = refl

-- and protobuf, each by its own key
takes_protobuf : map (λ members. (config_of members).accept_gzip ∷ (config_of members).accept_protobuf ∷ [])
    (no_members ∷ member (codes "accept_protobuf") (boolean true) no_members ∷ member (codes "accept_protobuf") (boolean false) no_members ∷ member (codes "accept_gzip") (boolean true) no_members ∷ [])
    ≡ (false ∷ false ∷ []) ∷ (false ∷ true ∷ []) ∷ (false ∷ false ∷ []) ∷ (true ∷ false ∷ []) ∷ []
takes_protobuf = refl

-- what a key does that takes one of two texts, and two of a truth value: by default, by each of its values
abbrev choices_of : Config → List Bool
choices_of c = c.waits_for_room ∷ c.keeps_doubles ∷ c.close_at_end_of_input ∷ c.record_policy ∷ []

chosen : map (λ members. choices_of (config_of members)) (no_members
    ∷ one_text (codes "queue_full") (codes "partial") ∷ one_text (codes "queue_full") (codes "retry")
    ∷ one_text (codes "double_values") (codes "discard") ∷ one_text (codes "double_values") (codes "keep")
    ∷ member (codes "close_at_end_of_input") (boolean false) no_members ∷ member (codes "close_at_end_of_input") (boolean true) no_members
    ∷ member (codes "record_policy") (boolean false) no_members ∷ member (codes "record_policy") (boolean true) no_members ∷ [])
    ≡ (false ∷ false ∷ false ∷ false ∷ [])
    ∷ (false ∷ false ∷ false ∷ false ∷ []) ∷ (true ∷ false ∷ false ∷ false ∷ [])
    ∷ (false ∷ false ∷ false ∷ false ∷ []) ∷ (false ∷ true ∷ false ∷ false ∷ [])
    ∷ (false ∷ false ∷ false ∷ false ∷ []) ∷ (false ∷ false ∷ true ∷ false ∷ [])
    ∷ (false ∷ false ∷ false ∷ false ∷ []) ∷ (false ∷ false ∷ false ∷ true ∷ []) ∷ []
chosen = refl

-- each key gives its own number
lowest_values : numbers_of (config_of (table_of (λ r. r.lowest))) ≡ 1 ∷ 0 ∷ 1 ∷ 1 ∷ 1 ∷ 1 ∷ 1 ∷ 1 ∷ 1 ∷ 0 ∷ 1 ∷ 0 ∷ 1 ∷ 0 ∷ 1 ∷ 0 ∷ 0 ∷ 0 ∷ 0 ∷ 1 ∷ 1 ∷ []
lowest_values = refl

greatest_values : numbers_of (config_of (table_of (λ r. r.greatest))) ≡ 3600000 ∷ 3600000 ∷ 1000000 ∷ 64 ∷ 64 ∷ 65536 ∷ 65536 ∷ 8192 ∷ 65536 ∷ 1048576 ∷ 64 ∷ 1073741824 ∷ 60000 ∷ 1048576 ∷ 1000 ∷ 1048576 ∷ 1048576 ∷ 1000000 ∷ 1000000 ∷ 60000 ∷ 1048576 ∷ []
greatest_values = refl

abbrev own_numbers : Members
own_numbers =
    member (codes "decision_wait_ms") (integer (pos 2))
    (member (codes "root_wait_ms") (integer (pos 3))
    (member (codes "num_traces") (integer (pos 5))
    (member (codes "lanes") (integer (pos 7))
    (member (codes "shards") (integer (pos 11))
    (member (codes "queue_capacity") (integer (pos 13))
    (member (codes "export_capacity") (integer (pos 17))
    (member (codes "send_batch_size") (integer (pos 19))
    (member (codes "max_connections") (integer (pos 37))
    (member (codes "memory_limit_mib") (integer (pos 41))
    (member (codes "max_request_mib") (integer (pos 47))
    (member (codes "maximum_trace_size_bytes") (integer (pos 43))
    (member (codes "tick_ms") (integer (pos 23))
    (member (codes "output_max_mib") (integer (pos 53))
    (member (codes "output_keep") (integer (pos 59))
    (member (codes "decisions_max_mib") (integer (pos 61))
    (member (codes "record_max_mib") (integer (pos 67))
    (member (codes "decision_cache") (table (member (codes "sampled_cache_size") (integer (pos 29)) (member (codes "non_sampled_cache_size") (integer (pos 31)) no_members)))
    (member (codes "ledger") (table (member (codes "sync_interval_ms") (integer (pos 71)) (member (codes "max_mib") (integer (pos 73)) no_members))) no_members))))))))))))))))))

own_values : numbers_of (config_of own_numbers) ≡ 2 ∷ 3 ∷ 5 ∷ 7 ∷ 11 ∷ 13 ∷ 17 ∷ 19 ∷ 37 ∷ 41 ∷ 47 ∷ 43 ∷ 23 ∷ 53 ∷ 59 ∷ 61 ∷ 67 ∷ 29 ∷ 31 ∷ 71 ∷ 73 ∷ []
own_values = refl

-- the wait from a root on by each of its two names, and by neither
abbrev root_waits : List Members
root_waits = one_key (codes "root_wait_ms") (pos 7) ∷ one_key (codes "decision_wait_after_root_received_ms") (pos 5) ∷ no_members ∷ []

root_waits_by_name : map (λ (members : Members). (config_of members).root_wait) root_waits ≡ 7 ∷ 5 ∷ 0 ∷ []
root_waits_by_name = refl

-- the settings of a text's policy that may be missing: the texts count as regular expressions only where that is true,
-- whatever the size
texts_of_policy : map (leaf_in type_is.StringAttribute) (matching (codes "enabled_regex_matching") (boolean true) ∷ matching (codes "enabled_regex_matching") (boolean false) ∷ matching (codes "cache_max_size") (integer (pos 7)) ∷ [])
    ≡ leaf_is.Attribute (codes "k") (StringMatching (codes "a." ∷ codes "b" ∷ [])) false
    ∷ leaf_is.Attribute (codes "k") (StringAmong (codes "a." ∷ codes "b" ∷ [])) false
    ∷ leaf_is.Attribute (codes "k") (StringAmong (codes "a." ∷ codes "b" ∷ [])) false ∷ []
unfolding leaf_in
texts_of_policy = refl

-- a bucket of bytes holds twice what comes back with each second, at most 2^63-1, or as many as it is told
buckets : bucket 5 None ∷ bucket 0 None ∷ bucket 4611686018427387904 None ∷ bucket 5 (Some (integer (pos 3))) ∷ bucket 5 (Some (integer (pos 0))) ∷ []
    ≡ Bytes 5 10 ∷ Bytes 0 0 ∷ Bytes 4611686018427387904 9223372036854775807 ∷ Bytes 5 3 ∷ Bytes 5 0 ∷ []
buckets = refl

salts : map salt_by ([] ∷ codes "own" ∷ []) ≡ codes "default-hash-seed" ∷ codes "own" ∷ []
salts = refl

-- where lines are sent to: nowhere by default, and by numbers of which no two are the same
nowhere_by_default : (config_of no_members).export.endpoint ≡ []
nowhere_by_default = refl

sent_by_default : Export
sent_by_default = (config_of (member (codes "export") (table (member (codes "endpoint") (string (codes "http://h:1/p")) no_members)) no_members)).export

waits_by_default : (sent_by_default.timeout ≡ 10000) × (sent_by_default.retry_initial ≡ 500) × (sent_by_default.retry_max ≡ 30000) × (sent_by_default.retry_for ≡ 300000) × (sent_by_default.close_wait ≡ 10000) × (sent_by_default.queue_batches ≡ 256) × (sent_by_default.lines ≡ false) × (sent_by_default.encoding ≡ encoding_is.Json) × (sent_by_default.headers ≡ [])
unfolding sent_by_default
waits_by_default = (refl, refl, refl, refl, refl, refl, refl, refl, refl)

numbers_of_export : Members
numbers_of_export =
    member (codes "export") (table (member (codes "endpoint") (string (codes "http://h:1/p"))
    (member (codes "timeout_ms") (integer (pos 2)) (member (codes "retry_initial_ms") (integer (pos 3)) (member (codes "retry_max_ms") (integer (pos 5))
    (member (codes "retry_for_ms") (integer (pos 7)) (member (codes "close_wait_ms") (integer (pos 11)) (member (codes "queue_batches") (integer (pos 13)) (member (codes "lines") (boolean true) (member (codes "encoding") (string (codes "proto"))
    (member (codes "headers") (table (member (codes "Authorization") (string (codes "Bearer x")) (member (codes "X-Tenant") (string (codes "t1")) no_members))) no_members))))))))))) no_members

sent_so : (config_of numbers_of_export).export ≡ record {
  endpoint = codes "http://h:1/p";
  timeout = 2;
  retry_initial = 3;
  retry_max = 5;
  retry_for = 7;
  close_wait = 11;
  queue_batches = 13;
  lines = true;
  encoding = encoding_is.Protobuf;
  headers = record { name = codes "Authorization"; value = codes "Bearer x" } ∷ record { name = codes "X-Tenant"; value = codes "t1" } ∷ [];
}
unfolding numbers_of_export
sent_so = refl

-- how batches are sent: by each of the two texts
sent_as : map (λ (text : List ℕ). (config_of (member (codes "export") (table (one_text (codes "encoding") text)) no_members)).export.encoding) (codes "json" ∷ codes "proto" ∷ [])
    ≡ encoding_is.Json ∷ encoding_is.Protobuf ∷ []
sent_as = refl

-- where requests wait: nowhere by default, and never synced
no_ledger_by_default : (config_of no_members).ledger ≡ record { path = []; sync = sync_is.None; sync_interval_ms = 1000; max_mib = 1024 }
no_ledger_by_default = refl

-- by its own keys, each with a value that no other key has
own_ledger : (config_of (member (codes "ledger") (table (member (codes "path") (string (codes "f")) (member (codes "sync") (string (codes "request")) (member (codes "sync_interval_ms") (integer (pos 71)) (member (codes "max_mib") (integer (pos 73)) no_members))))) no_members)).ledger
    ≡ record { path = codes "f"; sync = sync_is.Request; sync_interval_ms = 71; max_mib = 73 }
own_ledger = refl

-- when it is synced: by each of the three texts
ledger_synced : map (λ (text : List ℕ). (config_of (member (codes "ledger") (table (one_text (codes "sync") text)) no_members)).ledger.sync) (codes "none" ∷ codes "interval" ∷ codes "request" ∷ [])
    ≡ sync_is.None ∷ sync_is.Interval ∷ sync_is.Request ∷ []
ledger_synced = refl
