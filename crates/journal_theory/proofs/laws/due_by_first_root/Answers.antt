use Rattle.journal_theory.proofs.RootWait.{due_by_first_root}
use Rattle.journal_theory.proofs.laws.due_by_first_root.Goals as goal

pub returns : goal.returns
returns c = due_by_first_root
