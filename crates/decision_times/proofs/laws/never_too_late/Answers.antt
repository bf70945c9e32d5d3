use Rattle.decision_times.proofs.Stopping.{never_too_late}
use Rattle.decision_times.proofs.laws.never_too_late.Goals as goal

pub returns : goal.returns
returns c = never_too_late
