use Rattle.script_line.proofs.Numbers.{lane-is}
use Rattle.script_line.proofs.connection.connection_number.Goals as goal

pub returns-clause-lane : goal.returns-clause-lane
returns-clause-lane c = λ below. lane-is c.args.lanes c.args.key c.numbered.result c.numbered.ensures below
