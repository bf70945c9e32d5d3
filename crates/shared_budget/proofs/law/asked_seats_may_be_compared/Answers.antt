use Rattle.shared_budget.proofs.AllNodes.{new_are_of_one, asking_keeps, cells_suffice}
use Rattle.shared_budget.proofs.law.asked_seats_may_be_compared.Goals as goal

pub returns-clause-new : goal.returns-clause-new
returns-clause-new c = new_are_of_one

pub returns-clause-asked : goal.returns-clause-asked
returns-clause-asked c = asking_keeps

pub returns-clause-same : goal.returns-clause-same
returns-clause-same c = cells_suffice
