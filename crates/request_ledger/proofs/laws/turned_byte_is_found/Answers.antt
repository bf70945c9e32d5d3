use Rattle.request_ledger.proofs.Turned.{turned_is_none}
use Rattle.request_ledger.proofs.laws.turned_byte_is_found.Goals as goal

pub returns : goal.returns
returns c = turned_is_none
