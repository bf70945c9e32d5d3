use Rattle.shard_restore.proofs.Journals.{records_tell}
use Rattle.shard_restore.proofs.laws.records_tell_journals.Goals as goal

pub returns : goal.returns
returns c = records_tell c.entries_are_read.ensures
