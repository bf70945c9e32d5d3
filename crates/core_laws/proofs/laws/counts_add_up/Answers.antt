use Rattle.core_laws.proofs.Sums.{adds_up, adds_up_closed}
use Rattle.core_laws.proofs.laws.counts_add_up.Goals as goal

pub returns-clause-always : goal.returns-clause-always
returns-clause-always c = adds_up

pub returns-clause-closed : goal.returns-clause-closed
returns-clause-closed c = adds_up_closed
