use Rattle.std.proofs.Common.{◌≡◌, map, drop}
use Rattle.config_faults.specs.Keys.{has_key}
use Rattle.config_faults.specs.Tables.{setting_of}
use Rattle.config_faults.proofs.keys.has_key.Given as goal

-- one of the settings has the key where one of those that are left has it
abbrev pub invariant-loop-setting : goal.invariant-loop-setting
invariant-loop-setting l = has_key (map setting_of (drop l.setting-index l.settings)) l.key ≡ has_key (map setting_of l.settings) l.key
