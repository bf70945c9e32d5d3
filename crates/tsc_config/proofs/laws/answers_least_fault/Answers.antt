use Rattle.tsc_config.proofs.Whole.{text_least}
use Rattle.tsc_config.proofs.laws.answers_least_fault.Goals as goal

pub returns : goal.returns
returns c = text_least
