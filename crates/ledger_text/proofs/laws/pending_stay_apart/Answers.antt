use Rattle.ledger_text.proofs.Apart.{apart}
use Rattle.ledger_text.proofs.laws.pending_stay_apart.Goals as goal

pub returns : goal.returns
returns c = apart c.connections_stay_apart.ensures
