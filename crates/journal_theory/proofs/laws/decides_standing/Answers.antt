use Rattle.journal_theory.proofs.Deciding.{decides_standing}
use Rattle.journal_theory.proofs.laws.decides_standing.Goals as goal

pub returns : goal.returns
returns c = decides_standing
