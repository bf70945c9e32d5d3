use Rattle.decision_times.proofs.Stopping.{never_too_early}
use Rattle.decision_times.proofs.laws.never_too_early.Goals as goal

pub returns : goal.returns
returns c = never_too_early
