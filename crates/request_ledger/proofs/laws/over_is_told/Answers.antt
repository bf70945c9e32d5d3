use Rattle.request_ledger.proofs.Over.{over_is_told}
use Rattle.request_ledger.proofs.laws.over_is_told.Goals as goal

pub returns : goal.returns
returns c = over_is_told
