-- An asking changes no answer at another node.
-- For `other_nodes_stay`.
use Rattle.rate_budget.specs.BudgetLaws.{others-law}
use Rattle.rate_budget.proofs.laws.other_nodes_stay.Goals as goal

pub returns : goal.returns
returns c = others-law
