use Rattle.shared_budget.proofs.AllNodes.{asking_keeps}
use Rattle.parts_tests.proofs.tests.seats.ask.Goals as goal

pub returns-then-has_node : goal.returns-then-has_node
returns-then-has_node g c = (asking_keeps _ _ _ _ _ _ c.ask.ensures).0
