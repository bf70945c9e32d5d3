use Rattle.decision_times.proofs.Waiting.{decided_before_next_item}
use Rattle.decision_times.proofs.laws.decided_before_next_item.Goals as goal

pub returns : goal.returns
returns c = decided_before_next_item
