use Rattle.core_laws.proofs.Untaken.{untaken_is_counted}
use Rattle.core_laws.proofs.laws.untaken_is_counted.Goals as goal

pub returns : goal.returns
returns c = untaken_is_counted
