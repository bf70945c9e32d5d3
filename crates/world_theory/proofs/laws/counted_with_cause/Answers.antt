use Rattle.world_theory.proofs.laws.counted_with_cause.Goals as goal
use Rattle.world_theory.proofs.Parts

pub returns : goal.returns
returns c = Parts.counted_with_cause
