use Rattle.decision_times.proofs.Stopping.{nothing_after_all_ends}
use Rattle.decision_times.proofs.laws.nothing_after_all_ends.Goals as goal

pub returns : goal.returns
returns c = nothing_after_all_ends
