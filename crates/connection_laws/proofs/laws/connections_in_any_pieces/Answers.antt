use Rattle.connection_laws.proofs.Runs.{are_served}
use Rattle.connection_laws.proofs.Pieces.{turns_are_one_piece}
use Rattle.connection_laws.proofs.laws.connections_in_any_pieces.Goals as goal

pub returns-clause-served : goal.returns-clause-served
returns-clause-served g c = are_served _ _

pub returns-clause-one_piece : goal.returns-clause-one_piece
returns-clause-one_piece g c = turns_are_one_piece
