use Rattle.script_line.proofs.Numbers.{apart}
use Rattle.script_line.proofs.laws.connections_stay_apart.Goals as goal

pub returns : goal.returns
returns c = apart
