use Rattle.request_ledger.proofs.Over.{counted_is_over}
use Rattle.request_ledger.proofs.laws.counted_is_over.Goals as goal

pub returns : goal.returns
returns c = counted_is_over
