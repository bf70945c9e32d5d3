use Rattle.journal_theory.proofs.TooBig.{too_big_is_not_sampled}
use Rattle.journal_theory.proofs.laws.too_big_is_not_sampled.Goals as goal

pub returns : goal.returns
returns c = too_big_is_not_sampled
