use Rattle.world_theory.proofs.laws.ends_last.Goals as goal
use Rattle.world_theory.proofs.Parts

pub returns : goal.returns
returns c = Parts.ends_last
