use Rattle.record_laws.proofs.Replayed.{each_connection_receives}
use Rattle.record_laws.proofs.laws.each_connection_receives.Goals as goal

pub returns : goal.returns
returns c = each_connection_receives
