use Rattle.journal_entry.proofs.Whole.{entries_are_read_lem}
use Rattle.journal_entry.proofs.laws.entries_are_read.Goals as goal

pub returns : goal.returns
returns c = entries_are_read_lem
