use Rattle.world_theory.proofs.laws.in_one_place.Goals as goal
use Rattle.world_theory.proofs.OnePlace

pub returns : goal.returns
returns c = OnePlace.in_one_place
