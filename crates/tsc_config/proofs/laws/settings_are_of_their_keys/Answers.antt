use Rattle.tsc_config.proofs.Settings.{reads_settings}
use Rattle.tsc_config.proofs.laws.settings_are_of_their_keys.Goals as goal

pub returns : goal.returns
returns c = reads_settings
