use Rattle.journal_theory.proofs.RootWait.{root_wait_off}
use Rattle.journal_theory.proofs.laws.root_wait_off.Goals as goal

pub returns : goal.returns
returns c = root_wait_off
