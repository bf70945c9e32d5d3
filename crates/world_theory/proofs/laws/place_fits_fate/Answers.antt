use Rattle.world_theory.proofs.laws.place_fits_fate.Goals as goal
use Rattle.world_theory.proofs.Parts

pub returns : goal.returns
returns c = Parts.place_fits_fate
