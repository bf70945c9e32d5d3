use Rattle.journal_theory.proofs.Keeping.{keeps_standing}
use Rattle.journal_theory.proofs.laws.keeps_standing.Goals as goal

pub returns : goal.returns
returns c = keeps_standing
