use Rattle.shared_budget.proofs.Reunion.{within}
use Rattle.shared_budget.proofs.AllNodes.{each_within}
use Rattle.shared_budget.proofs.law.stays_within.Goals as goal

pub returns-clause-history : goal.returns-clause-history
returns-clause-history c = within

pub returns-clause-each : goal.returns-clause-each
returns-clause-each c = each_within
