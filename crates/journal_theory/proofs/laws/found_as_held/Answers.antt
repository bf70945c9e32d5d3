use Rattle.journal_theory.proofs.FoundAsHeld.{found_as_held}
use Rattle.journal_theory.proofs.laws.found_as_held.Goals as goal

pub returns : goal.returns
returns c = found_as_held
