use Rattle.world_theory.proofs.laws.nothing_after_close.Goals as goal
use Rattle.world_theory.proofs.AfterClose

pub returns : goal.returns
returns c = AfterClose.nothing_after_close
