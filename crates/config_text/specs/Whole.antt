-- The table of a configuration with its defaults: what stands there, and where nothing stands at a key that has a
-- default, the default. Policies stay as they are.
use Rattle.std.specs.Prelude.{◌≡◌, ℕ, ◌≤◌, true, ◌||◌, List, codes, Some, if◌then◌else◌}
use Rattle.std.specs.List.{list_all}
use Rattle.std.specs.Option.{is_some}
use Rattle.toml.specs.Data.{table, Members, get_member, members_depth, members_have_valid_dates}
use Rattle.toml.specs.Parse.{parse_document}
use Rattle.config_faults.specs.Tables.{number_row}
use Rattle.config_faults.specs.declared.tables.NumberKey.TheVariants as number_is
use Rattle.config_text.specs.Members.{Default, with_default, with_each, with_inner}
use Rattle.config_text.specs.Defaults.{number_default, defaults, cache_defaults, export_defaults, ledger_defaults}

-- the wait from a trace's root on, where nothing stands at its other name
abbrev pub with_root_wait : Members → Members
with_root_wait members = if is_some (get_member (number_row number_is.RootReceived).name members) then members else with_default (number_default number_is.RootWait) members

-- the table of a configuration with its defaults
unfoldable pub with_defaults : Members → Members
with_defaults members =
    with_inner (codes "ledger") ledger_defaults (with_inner (codes "export") export_defaults (with_inner (codes "decision_cache") cache_defaults (with_each defaults (with_root_wait members))))

-- something stands at the key of each of these defaults
abbrev pub HasEach : List Default → Members → Type 0
HasEach rows members = list_all (λ (row : Default). is_some (get_member row.name members)) rows ≡ true

-- each key that has a default stands in the table of a configuration, and in those within it that stand there
pub record IsWhole (members : Members) : Type 0 where
  pub settings : HasEach defaults members
  pub root_wait : is_some (get_member (number_row number_is.RootWait).name members) || is_some (get_member (number_row number_is.RootReceived).name members) ≡ true
  pub caches : (sizes : Members) → get_member (codes "decision_cache") members ≡ Some (table sizes) → HasEach cache_defaults sizes
  pub export : (given : Members) → get_member (codes "export") members ≡ Some (table given) → HasEach export_defaults given
  pub ledger : (given : Members) → get_member (codes "ledger") members ≡ Some (table given) → HasEach ledger_defaults given

-- a table that can be written and read again: it nests at most 80 deep, as the reader wants it, and has no date that a
-- text can't have
abbrev pub IsWritable : Members → Type 0
IsWritable members = (members_depth members ≤ 80) × (members_have_valid_dates members ≡ true)

-- a text is that of another one's table with its defaults, where that can be written
abbrev pub IsTextWithDefaults : (text written : List ℕ) → Type 0
IsTextWithDefaults text written = (members : Members) → parse_document text ≡ Some members → IsWritable (with_defaults members) → parse_document written ≡ Some (with_defaults members)

-- and each key that has a default stands in it
abbrev pub TellsEach : (text written : List ℕ) → Type 0
TellsEach text written = (members : Members) → parse_document text ≡ Some members → IsWritable (with_defaults members) → (told : Members) × (parse_document written ≡ Some told) × IsWhole told
