use Rattle.request_ledger.proofs.Over.{handed_is_over}
use Rattle.request_ledger.proofs.laws.handed_is_over.Goals as goal

pub returns : goal.returns
returns c = handed_is_over
