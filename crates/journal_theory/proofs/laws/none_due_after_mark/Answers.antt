use Rattle.journal_theory.proofs.RootWait.{none_due_after_mark}
use Rattle.journal_theory.proofs.laws.none_due_after_mark.Goals as goal

pub returns : goal.returns
returns c = none_due_after_mark
