use Rattle.world_theory.proofs.laws.only_released.Goals as goal
use Rattle.world_theory.proofs.Parts

pub returns : goal.returns
returns c = Parts.only_released
