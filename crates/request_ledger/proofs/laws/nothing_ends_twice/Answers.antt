use Rattle.request_ledger.proofs.Ends.{nothing_ends_twice}
use Rattle.request_ledger.proofs.laws.nothing_ends_twice.Goals as goal

pub returns : goal.returns
returns c = nothing_ends_twice
