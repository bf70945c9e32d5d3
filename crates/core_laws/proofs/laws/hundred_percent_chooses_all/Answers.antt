use Rattle.core_laws.proofs.Percentages.{hundred_percent}
use Rattle.core_laws.proofs.laws.hundred_percent_chooses_all.Goals as goal

pub returns : goal.returns
returns c = hundred_percent
