use Rattle.shard_ledger.proofs.Journals.{all_or_none}
use Rattle.shard_ledger.proofs.laws.all_or_none_is_restored.Goals as goal

pub returns : goal.returns
returns c = all_or_none c.entries_tell_journals.ensures
