use Rattle.std.proofs.Common.{◌≡◌, map, drop}
use Rattle.toml.specs.View.{table_view}
use Rattle.config_faults.specs.Faults.{least, each_setting_fault}
use Rattle.config_faults.specs.Tables.{setting_of}
use Rattle.config_faults.proofs.settings_faults.each_setting_fault.Given as goal

-- the least so far and the least of those that are left make the least of all
abbrev pub invariant-loop-setting : goal.invariant-loop-setting
invariant-loop-setting l = least l.fault (each_setting_fault (map setting_of (drop l.setting-index l.settings)) (table_view l.table)) ≡ each_setting_fault (map setting_of l.settings) (table_view l.table)
