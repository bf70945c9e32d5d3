use Rattle.journal_theory.proofs.TooBig.{none_too_big_without_maximum}
use Rattle.journal_theory.proofs.laws.none_too_big_without_maximum.Goals as goal

pub returns : goal.returns
returns c = none_too_big_without_maximum
