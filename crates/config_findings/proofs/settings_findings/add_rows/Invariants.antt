use Rattle.std.proofs.Common.{◌≡◌, ◌++◌, map, drop}
use Rattle.toml.specs.View.{table_view}
use Rattle.config_findings.specs.FaultLists.{rows_faults}
use Rattle.config_faults.specs.Tables.{setting_of}
use Rattle.config_findings.proofs.settings_findings.add_rows.Given as goal

-- what was found so far, and the faults of the settings that are left
abbrev pub invariant-loop-setting : goal.invariant-loop-setting
invariant-loop-setting l = l.findings ++ rows_faults (map setting_of (drop l.setting-index l.settings)) (table_view l.table) ≡ l.fn.findings ++ rows_faults (map setting_of l.settings) (table_view l.table)
