use Rattle.world_theory.proofs.laws.in_received_order.Goals as goal
use Rattle.world_theory.proofs.Order

pub returns : goal.returns
returns c = Order.in_received_order
