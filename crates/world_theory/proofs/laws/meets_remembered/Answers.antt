use Rattle.world_theory.proofs.laws.meets_remembered.Goals as goal
use Rattle.world_theory.proofs.Parts

pub returns : goal.returns
returns c = Parts.meets_remembered
