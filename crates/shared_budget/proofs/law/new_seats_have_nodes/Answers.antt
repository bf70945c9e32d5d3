use Rattle.shared_budget.proofs.Nodes.{new_have_nodes}
use Rattle.shared_budget.proofs.law.new_seats_have_nodes.Goals as goal

pub returns : goal.returns
returns c = new_have_nodes
