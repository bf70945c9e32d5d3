use Rattle.std.proofs.Common.{refl}
use Rattle.http_lane.specs.Turns.{came_at}
use Rattle.http_lane.proofs.TurnPieces.{turns_in_one_piece}
use Rattle.http_lane.proofs.laws.turns_in_any_pieces.Goals as goal

pub returns : goal.returns
returns c = λ allowed moment turns last pieces ends run. turns_in_one_piece (came_at allowed moment) last turns pieces ends run refl refl
