-- The default of each key of a configuration that has one, by the table of its settings.
use Rattle.std.specs.Prelude.{ℕ, pos, List, [], ◌∷◌, codes, Option, None, Some}
use Rattle.toml.specs.Data.{Data, integer, table, no_members}
use Rattle.config_text.specs.Members.{Default}
use Rattle.config_faults.specs.Setting.{Setting}
use Rattle.config_faults.specs.Tables.{number_row, top_settings, cache_settings, export_settings, ledger_settings}
use Rattle.config_faults.specs.declared.tables.NumberKey.{NumberKey}

-- a whole number, as the table of the keys of whole numbers has it
abbrev pub number_default : NumberKey → Default
number_default key = record { name = (number_row key).name; value = integer (pos (number_row key).default) }

-- a default of a name before others, where there is one
abbrev pub default_before : (name : List ℕ) → Option Data → List Default → List Default
default_before name None rest = rest
default_before name (Some value) rest = record { name = name; value = value } ∷ rest

-- the defaults of those settings that have one
abbrev pub defaults_of : List Setting → List Default
defaults_of [] = []
defaults_of (s ∷ rest) = default_before s.name s.default (defaults_of rest)

-- a table without keys, for the sizes of the caches of decisions
abbrev pub no_sizes : Default
no_sizes = record { name = codes "decision_cache"; value = table no_members }

-- the keys of the table of a configuration, but for the wait from a trace's root on, which has two names; `admin`,
-- `export` and `ledger` have no default, and `policies` is required
abbrev pub defaults : List Default
defaults = no_sizes ∷ defaults_of top_settings

-- the keys of the table of caches of decisions
abbrev pub cache_defaults : List Default
cache_defaults = defaults_of cache_settings

-- the keys of the table of `export`, but for the address, which is required, and `headers`, which have no default
abbrev pub export_defaults : List Default
export_defaults = defaults_of export_settings

-- the keys of the table of `ledger`, but for the folder, which is required
abbrev pub ledger_defaults : List Default
ledger_defaults = defaults_of ledger_settings
