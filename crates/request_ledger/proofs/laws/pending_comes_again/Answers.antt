use Rattle.request_ledger.proofs.Over.{pending_comes_again}
use Rattle.request_ledger.proofs.laws.pending_comes_again.Goals as goal

pub returns : goal.returns
returns c = pending_comes_again
