use Rattle.std.proofs.Common.{◌≡◌, map, drop}
use Rattle.toml.specs.View.{table_view}
use Rattle.config_faults.specs.Tables.{setting_of}
use Rattle.config_text.specs.Defaults.{defaults_of}
use Rattle.config_text.specs.Members.{with_each}
use Rattle.config_text.proofs.filling.put_each.Given as goal

-- the table with the defaults that are left is what it is to become
abbrev pub invariant-loop-setting : goal.invariant-loop-setting
invariant-loop-setting l = with_each (defaults_of (map setting_of (drop l.setting-index l.settings))) (table_view l.table) ≡ with_each (defaults_of (map setting_of l.settings)) (table_view l.initial.table)
