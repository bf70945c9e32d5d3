use Rattle.request_ledger.proofs.Ends.{ended_stay_ended}
use Rattle.request_ledger.proofs.laws.ended_stay_ended.Goals as goal

pub returns : goal.returns
returns c = ended_stay_ended
