use Rattle.record_laws.proofs.Replayed.{any_order_will_do}
use Rattle.record_laws.proofs.laws.any_order_will_do.Goals as goal

pub returns : goal.returns
returns c = any_order_will_do
