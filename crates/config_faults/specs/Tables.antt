-- The settings of the tables that are no policy's: the one table of their keys, of what stands there and of their
-- defaults.
use Rattle.std.specs.Prelude.{ℕ, pos, false, List, [], ◌∷◌, ◌++◌, codes}
use Rattle.toml.specs.Data.{Data, integer, string, boolean}
use Rattle.config_faults.specs.Setting.{Setting, required, optional, defaulted}
use Rattle.config_faults.specs.declared.tables.ChoiceKey.{ChoiceKey}
use Rattle.config_faults.specs.declared.tables.ChoiceKey.TheVariants as choice_is
use Rattle.config_faults.specs.declared.tables.NumberKey.{NumberKey}
use Rattle.config_faults.specs.declared.tables.NumberKey.TheVariants as number_is
use Rattle.config_faults.specs.declared.tables.TextKey.{TextKey}
use Rattle.config_faults.specs.declared.tables.TextKey.TheVariants as text_is
use Rattle.config_faults.specs.declared.settings.ValueKind.TheVariants as value_is
use Rattle.config_faults.specs.declared.settings.DefaultValue.{DefaultValue}
use Rattle.config_faults.specs.declared.settings.DefaultValue.TheVariants as default_is
use Rattle.config_faults.specs.declared.settings.Setting as code
use Rattle.config_faults.specs.declared.settings.Setting.TheVariants as code_is

-- what a key of a whole number has: its name, its default, its lowest and greatest number
pub record NumberRow : Type 0 where
  pub name : List ℕ
  pub default : ℕ
  pub lowest : ℕ
  pub greatest : ℕ

-- the table of the keys of whole numbers, those within `decision_cache`, `export` and `ledger` too
abbrev pub number_row : NumberKey → NumberRow
number_row number_is.DecisionWait = record { name = codes "decision_wait_ms"; default = 30000; lowest = 1; greatest = 3600000 }
number_row number_is.RootWait = record { name = codes "root_wait_ms"; default = 0; lowest = 0; greatest = 3600000 }
-- another name of the one before
number_row number_is.RootReceived = record { name = codes "decision_wait_after_root_received_ms"; default = 0; lowest = 0; greatest = 3600000 }
number_row number_is.NumTraces = record { name = codes "num_traces"; default = 50000; lowest = 1; greatest = 1000000 }
number_row number_is.Lanes = record { name = codes "lanes"; default = 1; lowest = 1; greatest = 64 }
number_row number_is.Shards = record { name = codes "shards"; default = 1; lowest = 1; greatest = 64 }
number_row number_is.QueueCapacity = record { name = codes "queue_capacity"; default = 1024; lowest = 1; greatest = 65536 }
number_row number_is.ExportCapacity = record { name = codes "export_capacity"; default = 1024; lowest = 1; greatest = 65536 }
number_row number_is.SendBatchSize = record { name = codes "send_batch_size"; default = 512; lowest = 1; greatest = 8192 }
number_row number_is.MaxConnections = record { name = codes "max_connections"; default = 1024; lowest = 1; greatest = 65536 }
number_row number_is.MemoryLimit = record { name = codes "memory_limit_mib"; default = 0; lowest = 0; greatest = 1048576 }
number_row number_is.MaxRequest = record { name = codes "max_request_mib"; default = 4; lowest = 1; greatest = 64 }
number_row number_is.MaximumTraceSize = record { name = codes "maximum_trace_size_bytes"; default = 0; lowest = 0; greatest = 1073741824 }
number_row number_is.OutputMax = record { name = codes "output_max_mib"; default = 0; lowest = 0; greatest = 1048576 }
number_row number_is.OutputKeep = record { name = codes "output_keep"; default = 7; lowest = 1; greatest = 1000 }
number_row number_is.DecisionsMax = record { name = codes "decisions_max_mib"; default = 0; lowest = 0; greatest = 1048576 }
number_row number_is.RecordMax = record { name = codes "record_max_mib"; default = 0; lowest = 0; greatest = 1048576 }
number_row number_is.Tick = record { name = codes "tick_ms"; default = 1000; lowest = 1; greatest = 60000 }
number_row number_is.SampledCacheSize = record { name = codes "sampled_cache_size"; default = 0; lowest = 0; greatest = 1000000 }
number_row number_is.NonSampledCacheSize = record { name = codes "non_sampled_cache_size"; default = 0; lowest = 0; greatest = 1000000 }
number_row number_is.Timeout = record { name = codes "timeout_ms"; default = 10000; lowest = 1; greatest = 600000 }
number_row number_is.RetryInitial = record { name = codes "retry_initial_ms"; default = 500; lowest = 1; greatest = 3600000 }
number_row number_is.RetryMax = record { name = codes "retry_max_ms"; default = 30000; lowest = 1; greatest = 3600000 }
number_row number_is.RetryFor = record { name = codes "retry_for_ms"; default = 300000; lowest = 0; greatest = 86400000 }
number_row number_is.CloseWait = record { name = codes "close_wait_ms"; default = 10000; lowest = 0; greatest = 3600000 }
number_row number_is.QueueBatches = record { name = codes "queue_batches"; default = 256; lowest = 1; greatest = 65536 }
number_row number_is.SyncInterval = record { name = codes "sync_interval_ms"; default = 1000; lowest = 1; greatest = 60000 }
number_row number_is.LedgerMax = record { name = codes "max_mib"; default = 1024; lowest = 1; greatest = 1048576 }

-- what a key of one of two texts has: its name, its default, and the other text
pub record ChoiceRow : Type 0 where
  pub name : List ℕ
  pub default : List ℕ
  pub other : List ℕ

-- the table of the keys of one of two texts, those within `export` too
abbrev pub choice_row : ChoiceKey → ChoiceRow
choice_row choice_is.QueueFull = record { name = codes "queue_full"; default = codes "partial"; other = codes "retry" }
choice_row choice_is.DoubleValues = record { name = codes "double_values"; default = codes "discard"; other = codes "keep" }
choice_row choice_is.Encoding = record { name = codes "encoding"; default = codes "json"; other = codes "proto" }

-- what a key of a text has: its name and its default
pub record TextRow : Type 0 where
  pub name : List ℕ
  pub default : List ℕ

-- the table of the keys of texts that have a default, that within `ledger` too
abbrev pub text_row : TextKey → TextRow
text_row text_is.Listen = record { name = codes "listen"; default = codes "127.0.0.1:4318" }
text_row text_is.Metrics = record { name = codes "metrics"; default = [] }
text_row text_is.Output = record { name = codes "output"; default = [] }
text_row text_is.Decisions = record { name = codes "decisions"; default = [] }
text_row text_is.Record = record { name = codes "record"; default = [] }
text_row text_is.OutputFault = record { name = codes "output_fault"; default = codes "discard" }
text_row text_is.Log = record { name = codes "log"; default = codes "text" }
text_row text_is.LedgerSync = record { name = codes "sync"; default = codes "none" }

-- the program's default
abbrev pub default_of : DefaultValue → Data
default_of (default_is.Number number) = integer number
default_of (default_is.Choice key) = string (choice_row key).default
default_of (default_is.Text key) = string (text_row key).default
default_of default_is.Off = boolean false

-- the program's setting
abbrev pub setting_of : code.Setting → Setting
setting_of (code_is.Required name value) = required name.now value
setting_of (code_is.Optional name value) = optional name.now value
setting_of (code_is.Default name value default) = defaulted name.now value (default_of default)

-- the settings of such keys
abbrev pub number_setting : NumberKey → Setting
number_setting key = defaulted (number_row key).name (value_is.Integer (pos (number_row key).lowest) (pos (number_row key).greatest)) (integer (pos (number_row key).default))

abbrev pub choice_setting : ChoiceKey → Setting
choice_setting key = defaulted (choice_row key).name (value_is.Choice key) (string (choice_row key).default)

abbrev pub text_setting : TextKey → Setting
text_setting key = defaulted (text_row key).name value_is.Text (string (text_row key).default)

-- of the form of the log
abbrev pub log_setting : TextKey → Setting
log_setting key = defaulted (text_row key).name value_is.LogForm (string (text_row key).default)

-- of what is done once the output fails
abbrev pub output_fault_setting : TextKey → Setting
output_fault_setting key = defaulted (text_row key).name value_is.OutputFault (string (text_row key).default)

-- of when the ledger of requests is synced
abbrev pub ledger_sync_setting : TextKey → Setting
ledger_sync_setting key = defaulted (text_row key).name value_is.LedgerSync (string (text_row key).default)

-- of one of two names of a number, of which neither has a default of its own
abbrev pub root_setting : NumberKey → Setting
root_setting key = optional (number_row key).name (value_is.Integer (pos (number_row key).lowest) (pos (number_row key).greatest))

-- of what is false by default
abbrev pub switch : (name : List ℕ) → Setting
switch name = defaulted name value_is.Truth (boolean false)

-- how long traces wait
abbrev pub wait_settings : List Setting
wait_settings = number_setting number_is.DecisionWait ∷ root_setting number_is.RootWait ∷ root_setting number_is.RootReceived ∷ []

-- the others of a configuration that are no tables
abbrev pub other_settings : List Setting
other_settings =
    number_setting number_is.NumTraces
    ∷ number_setting number_is.Lanes
    ∷ number_setting number_is.Shards
    ∷ number_setting number_is.Tick
    ∷ number_setting number_is.QueueCapacity
    ∷ number_setting number_is.ExportCapacity
    ∷ number_setting number_is.SendBatchSize
    ∷ number_setting number_is.MaxConnections
    ∷ number_setting number_is.MemoryLimit
    ∷ number_setting number_is.MaxRequest
    ∷ number_setting number_is.MaximumTraceSize
    ∷ number_setting number_is.OutputMax
    ∷ number_setting number_is.OutputKeep
    ∷ number_setting number_is.DecisionsMax
    ∷ number_setting number_is.RecordMax
    ∷ switch (codes "record_policy")
    ∷ text_setting text_is.Listen
    ∷ text_setting text_is.Metrics
    ∷ text_setting text_is.Output
    ∷ text_setting text_is.Decisions
    ∷ text_setting text_is.Record
    ∷ log_setting text_is.Log
    ∷ switch (codes "accept_gzip")
    ∷ switch (codes "accept_protobuf")
    ∷ switch (codes "sample_on_first_match")
    ∷ choice_setting choice_is.QueueFull
    ∷ output_fault_setting text_is.OutputFault
    ∷ choice_setting choice_is.DoubleValues
    ∷ switch (codes "close_at_end_of_input")
    ∷ optional (codes "admin") value_is.Text
    ∷ []

-- the settings of a configuration that are no tables
abbrev pub top_settings : List Setting
top_settings = wait_settings ++ other_settings

-- those of the caches of decisions
abbrev pub cache_settings : List Setting
cache_settings = number_setting number_is.SampledCacheSize ∷ number_setting number_is.NonSampledCacheSize ∷ []

-- those of `export`: the address, times in milliseconds, how many batches wait, whether lines are printed too, the
-- encoding, and fields of requests
abbrev pub export_settings : List Setting
export_settings =
    required (codes "endpoint") value_is.Endpoint
    ∷ number_setting number_is.Timeout
    ∷ number_setting number_is.RetryInitial
    ∷ number_setting number_is.RetryMax
    ∷ number_setting number_is.RetryFor
    ∷ number_setting number_is.CloseWait
    ∷ number_setting number_is.QueueBatches
    ∷ switch (codes "lines")
    ∷ choice_setting choice_is.Encoding
    ∷ optional (codes "headers") value_is.Headers
    ∷ []

-- those of `ledger`: the folder in which requests wait, when its files are synced, the time between two syncs in
-- milliseconds, and how many mebibytes it has at most
abbrev pub ledger_settings : List Setting
ledger_settings =
    required (codes "path") value_is.Text
    ∷ ledger_sync_setting text_is.LedgerSync
    ∷ number_setting number_is.SyncInterval
    ∷ number_setting number_is.LedgerMax
    ∷ []
