use Rattle.world_theory.proofs.laws.headline.Goals as goal
use Rattle.world_theory.proofs.Parts

pub returns : goal.returns
returns c = Parts.headline
