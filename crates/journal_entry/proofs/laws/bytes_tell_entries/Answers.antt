use Rattle.journal_entry.proofs.Whole.{bytes_tell_entries_lem}
use Rattle.journal_entry.proofs.laws.bytes_tell_entries.Goals as goal

pub returns : goal.returns
returns c = bytes_tell_entries_lem
