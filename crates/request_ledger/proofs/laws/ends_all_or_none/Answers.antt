use Rattle.request_ledger.proofs.Ends.{all_or_none}
use Rattle.request_ledger.proofs.laws.ends_all_or_none.Goals as goal

pub returns : goal.returns
returns c = all_or_none
