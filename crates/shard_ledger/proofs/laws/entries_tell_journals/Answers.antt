use Rattle.shard_ledger.proofs.Journals.{one_journal}
use Rattle.shard_ledger.proofs.laws.entries_tell_journals.Goals as goal

pub returns : goal.returns
returns c = one_journal c.bytes_are_one_entry.ensures
