use Rattle.world_theory.proofs.laws.ships_output.Goals as goal
use Rattle.world_theory.proofs.Parts

pub returns : goal.returns
returns c = Parts.ships_output
