-- What a configuration has from its table, key by key: what stands at the key, or the key's default.
use Rattle.std.specs.Prelude.{[], ◌≡◌, ℕ, ◌≤◌, pos, Bool, true, false, List, ◌⊎◌, codes, Some, None, Ok}
use Rattle.toml.specs.Data.{string, integer, boolean, table, Members, get_member}
use Rattle.toml.specs.Parse.{parse_document}
use Rattle.tsc_config.specs.Reading.{reading}
use Rattle.config_faults.specs.Exports.{is_endpoint}
use Rattle.tsc_config.specs.HeaderFields.{AreFields}
use Rattle.tsc_config.specs.declared.config.Config.{Config}
use Rattle.tsc_config.specs.declared.log_form.LogForm.{LogForm}
use Rattle.tsc_config.specs.declared.log_form.LogForm.TheVariants as log_is
use Rattle.tsc_config.specs.declared.output_fault.OutputFault.{OutputFault}
use Rattle.tsc_config.specs.declared.output_fault.OutputFault.TheVariants as output_is
use Rattle.tsc_config.specs.declared.exports.Export.{Export}
use Rattle.tsc_config.specs.declared.exports.ExportEncoding.{ExportEncoding}
use Rattle.tsc_config.specs.declared.exports.ExportEncoding.TheVariants as encoding_is
use Rattle.tsc_config.specs.declared.headers.HeaderField.{HeaderField}
use Rattle.tsc_config.specs.declared.ledger.Ledger.{Ledger}
use Rattle.tsc_config.specs.declared.ledger.LedgerSync.{LedgerSync}
use Rattle.tsc_config.specs.declared.ledger.LedgerSync.TheVariants as sync_is

-- the number of a key: its default, where it doesn't stand there; else the whole number there, which is within these
-- bounds
abbrev pub IsNumberAt : Members → (key : List ℕ) → (default lowest greatest : ℕ) → (number : ℕ) → Type 0
IsNumberAt members key default lowest greatest number =
    ((get_member key members ≡ None) × (number ≡ default))
    ⊎ ((get_member key members ≡ Some (integer (pos number))) × (lowest ≤ number) × (number ≤ greatest))

-- the number of a setting with two names, of which at most one stands there
abbrev pub IsNumberAtEither : Members → (key other : List ℕ) → (default lowest greatest : ℕ) → (number : ℕ) → Type 0
IsNumberAtEither members key other default lowest greatest number =
    ((get_member other members ≡ None) × IsNumberAt members key default lowest greatest number)
    ⊎ ((get_member key members ≡ None) × IsNumberAt members other default lowest greatest number)

-- the text of a key: its default, where it doesn't stand there; else the text there
abbrev pub IsTextAt : Members → (key : List ℕ) → (default text : List ℕ) → Type 0
IsTextAt members key default text =
    ((get_member key members ≡ None) × (text ≡ default)) ⊎ (get_member key members ≡ Some (string text))

-- the truth value of a key: false, where it doesn't stand there; else the truth value there
abbrev pub IsTruthAt : Members → (key : List ℕ) → (truth : Bool) → Type 0
IsTruthAt members key truth =
    ((get_member key members ≡ None) × (truth ≡ false)) ⊎ (get_member key members ≡ Some (boolean truth))

-- the choice of a key: not made, where it doesn't stand there or is this default; made, where it is the other text
abbrev pub IsChoiceAt : Members → (key default other : List ℕ) → (is_other : Bool) → Type 0
IsChoiceAt members key default other is_other =
    ((get_member key members ≡ None) × (is_other ≡ false))
    ⊎ (((get_member key members ≡ Some (string default)) × (is_other ≡ false))
    ⊎ ((get_member key members ≡ Some (string other)) × (is_other ≡ true)))

-- the form of the log: text, where its key doesn't stand there; else what the text there names
abbrev pub IsLogAt : Members → LogForm → Type 0
IsLogAt members form =
    ((get_member (codes "log") members ≡ None) × (form ≡ log_is.Text))
    ⊎ (((get_member (codes "log") members ≡ Some (string (codes "text"))) × (form ≡ log_is.Text))
    ⊎ (((get_member (codes "log") members ≡ Some (string (codes "json"))) × (form ≡ log_is.Json))
    ⊎ ((get_member (codes "log") members ≡ Some (string (codes "off"))) × (form ≡ log_is.Off))))

-- what is done once the output fails: it is discarded, where its key doesn't stand there; else what the text there names
abbrev pub IsOutputFaultAt : Members → OutputFault → Type 0
IsOutputFaultAt members fault =
    ((get_member (codes "output_fault") members ≡ None) × (fault ≡ output_is.Discard))
    ⊎ (((get_member (codes "output_fault") members ≡ Some (string (codes "discard"))) × (fault ≡ output_is.Discard))
    ⊎ (((get_member (codes "output_fault") members ≡ Some (string (codes "stop"))) × (fault ≡ output_is.Stop))
    ⊎ ((get_member (codes "output_fault") members ≡ Some (string (codes "retry"))) × (fault ≡ output_is.Retry))))

-- the size of a cache of decisions: 0 where there is no table of them; else that of its key there
abbrev pub IsCacheSize : Members → (key : List ℕ) → (size : ℕ) → Type 0
IsCacheSize members key size =
    ((get_member (codes "decision_cache") members ≡ None) × (size ≡ 0))
    ⊎ ((sizes : Members) × (get_member (codes "decision_cache") members ≡ Some (table sizes)) × IsNumberAt sizes key 0 0 1000000 size)

-- the fields at a key: none, where nothing stands there; else those of the table there, each of which may be sent
abbrev pub AreHeadersAt : Members → (key : List ℕ) → List HeaderField → Type 0
AreHeadersAt given key headers =
    ((get_member key given ≡ None) × (headers ≡ []))
    ⊎ ((fields : Members) × (get_member key given ≡ Some (table fields)) × AreFields fields headers)

-- how batches are sent: as JSON, where its key doesn't stand there; else what the text there names
abbrev pub IsEncodingAt : Members → ExportEncoding → Type 0
IsEncodingAt given encoding =
    ((get_member (codes "encoding") given ≡ None) × (encoding ≡ encoding_is.Json))
    ⊎ (((get_member (codes "encoding") given ≡ Some (string (codes "json"))) × (encoding ≡ encoding_is.Json))
    ⊎ ((get_member (codes "encoding") given ≡ Some (string (codes "proto"))) × (encoding ≡ encoding_is.Protobuf)))

-- the table of `export`: an address of this form, each number its default or a whole number within its bounds, whether
-- lines are printed too, how batches are sent, and fields that may be sent
pub record HasExport (given : Members) (export : Export) : Type 0 where
  pub endpoint : get_member (codes "endpoint") given ≡ Some (string export.endpoint)
  pub form : is_endpoint export.endpoint ≡ true
  pub timeout : IsNumberAt given (codes "timeout_ms") 10000 1 600000 export.timeout
  pub retry_initial : IsNumberAt given (codes "retry_initial_ms") 500 1 3600000 export.retry_initial
  pub retry_max : IsNumberAt given (codes "retry_max_ms") 30000 1 3600000 export.retry_max
  pub retry_for : IsNumberAt given (codes "retry_for_ms") 300000 0 86400000 export.retry_for
  pub close_wait : IsNumberAt given (codes "close_wait_ms") 10000 0 3600000 export.close_wait
  pub queue_batches : IsNumberAt given (codes "queue_batches") 256 1 65536 export.queue_batches
  pub lines : IsTruthAt given (codes "lines") export.lines
  pub encoding : IsEncodingAt given export.encoding
  pub headers : AreHeadersAt given (codes "headers") export.headers

-- nothing is sent where there is no such table
abbrev pub IsExportAt : Members → Export → Type 0
IsExportAt members export =
    ((get_member (codes "export") members ≡ None) × (export.endpoint ≡ []))
    ⊎ ((given : Members) × (get_member (codes "export") members ≡ Some (table given)) × HasExport given export)

-- when the ledger is synced: never, where its key doesn't stand there; else what the text there names
abbrev pub IsLedgerSyncAt : Members → LedgerSync → Type 0
IsLedgerSyncAt given sync =
    ((get_member (codes "sync") given ≡ None) × (sync ≡ sync_is.None))
    ⊎ (((get_member (codes "sync") given ≡ Some (string (codes "none"))) × (sync ≡ sync_is.None))
    ⊎ (((get_member (codes "sync") given ≡ Some (string (codes "interval"))) × (sync ≡ sync_is.Interval))
    ⊎ ((get_member (codes "sync") given ≡ Some (string (codes "request"))) × (sync ≡ sync_is.Request))))

-- the table of `ledger`: a folder, when its files are synced, and each number its default or a whole number within its
-- bounds
pub record HasLedger (given : Members) (ledger : Ledger) : Type 0 where
  pub path : get_member (codes "path") given ≡ Some (string ledger.path)
  pub sync : IsLedgerSyncAt given ledger.sync
  pub sync_interval_ms : IsNumberAt given (codes "sync_interval_ms") 1000 1 60000 ledger.sync_interval_ms
  pub max_mib : IsNumberAt given (codes "max_mib") 1024 1 1048576 ledger.max_mib

-- requests wait in no folder where there is no such table
abbrev pub IsLedgerAt : Members → Ledger → Type 0
IsLedgerAt members ledger =
    ((get_member (codes "ledger") members ≡ None) × (ledger.path ≡ []))
    ⊎ ((given : Members) × (get_member (codes "ledger") members ≡ Some (table given)) × HasLedger given ledger)

-- each key of a table: its default, its least and greatest number, and the setting that has its value
pub record HasSettings (members : Members) (config : Config) : Type 0 where
  pub decision_wait : IsNumberAt members (codes "decision_wait_ms") 30000 1 3600000 config.decision_wait
  pub root_wait : IsNumberAtEither members (codes "root_wait_ms") (codes "decision_wait_after_root_received_ms") 0 0 3600000 config.root_wait
  pub num_traces : IsNumberAt members (codes "num_traces") 50000 1 1000000 config.num_traces
  pub sampled_cache_size : IsCacheSize members (codes "sampled_cache_size") config.sampled_cache_size
  pub non_sampled_cache_size : IsCacheSize members (codes "non_sampled_cache_size") config.non_sampled_cache_size
  pub lanes : IsNumberAt members (codes "lanes") 1 1 64 config.lanes
  pub shards : IsNumberAt members (codes "shards") 1 1 64 config.shards
  pub queue_capacity : IsNumberAt members (codes "queue_capacity") 1024 1 65536 config.queue_capacity
  pub export_capacity : IsNumberAt members (codes "export_capacity") 1024 1 65536 config.export_capacity
  pub send_batch_size : IsNumberAt members (codes "send_batch_size") 512 1 8192 config.send_batch_size
  pub max_connections : IsNumberAt members (codes "max_connections") 1024 1 65536 config.max_connections
  pub memory_limit_mib : IsNumberAt members (codes "memory_limit_mib") 0 0 1048576 config.memory_limit_mib
  pub max_request_mib : IsNumberAt members (codes "max_request_mib") 4 1 64 config.max_request_mib
  pub maximum_trace_size : IsNumberAt members (codes "maximum_trace_size_bytes") 0 0 1073741824 config.maximum_trace_size
  pub tick : IsNumberAt members (codes "tick_ms") 1000 1 60000 config.tick
  pub listen : IsTextAt members (codes "listen") (codes "127.0.0.1:4318") config.listen
  pub accept_gzip : IsTruthAt members (codes "accept_gzip") config.accept_gzip
  pub accept_protobuf : IsTruthAt members (codes "accept_protobuf") config.accept_protobuf
  pub waits_for_room : IsChoiceAt members (codes "queue_full") (codes "partial") (codes "retry") config.waits_for_room
  pub output : IsTextAt members (codes "output") [] config.output
  pub output_max_mib : IsNumberAt members (codes "output_max_mib") 0 0 1048576 config.output_max_mib
  pub output_keep : IsNumberAt members (codes "output_keep") 7 1 1000 config.output_keep
  pub decisions : IsTextAt members (codes "decisions") [] config.decisions
  pub decisions_max_mib : IsNumberAt members (codes "decisions_max_mib") 0 0 1048576 config.decisions_max_mib
  pub request_record : IsTextAt members (codes "record") [] config.request_record
  pub record_max_mib : IsNumberAt members (codes "record_max_mib") 0 0 1048576 config.record_max_mib
  pub record_policy : IsTruthAt members (codes "record_policy") config.record_policy
  pub output_fault : IsOutputFaultAt members config.output_fault
  pub keeps_doubles : IsChoiceAt members (codes "double_values") (codes "discard") (codes "keep") config.keeps_doubles
  pub close_at_end_of_input : IsTruthAt members (codes "close_at_end_of_input") config.close_at_end_of_input
  pub admin : IsTextAt members (codes "admin") [] config.admin
  pub metrics : IsTextAt members (codes "metrics") [] config.metrics
  pub log : IsLogAt members config.log
  pub export : IsExportAt members config.export
  pub ledger : IsLedgerAt members config.ledger

-- a text that is read as a configuration is a document with these settings
abbrev pub ReadsSettings : Type 0
ReadsSettings = (text : List ℕ) (config : Config) → reading text ≡ Ok config
    → (members : Members) × (parse_document text ≡ Some members) × HasSettings members config
