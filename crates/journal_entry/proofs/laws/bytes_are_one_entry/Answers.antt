use Rattle.journal_entry.proofs.Whole.{bytes_are_one_entry_lem}
use Rattle.journal_entry.proofs.laws.bytes_are_one_entry.Goals as goal

pub returns : goal.returns
returns c = bytes_are_one_entry_lem
