use Rattle.toml.specs.View.{table_view}
use Rattle.config_faults.proofs.Least.{settings_step}
use Rattle.config_faults.proofs.settings_faults.each_setting_fault.Goals as goal

pub loop-setting-preserved : goal.loop-setting-preserved
loop-setting-preserved c =
    settings_step (table_view c.args.table.now) c.loop-setting.fault c.setting_fault.result c.least-fault.result c.args.settings.now c.loop-setting.setting-index _ _
    c.loop-setting-test.true c.setting_fault.ensures c.least-fault.ensures c.loop-setting.invariant
