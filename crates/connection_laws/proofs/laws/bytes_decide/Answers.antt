use Rattle.connection_laws.proofs.Alike.{decided}
use Rattle.connection_laws.proofs.laws.bytes_decide.Goals as goal

pub returns : goal.returns
returns g c = decided _ _ _ _
