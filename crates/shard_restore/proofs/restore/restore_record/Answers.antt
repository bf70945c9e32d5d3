use Rattle.shard_restore.proofs.TakenAgain.{restores_on}
use Rattle.shard_restore.proofs.restore.restore_record.Goals as goal

pub returns-in-Ok-clause-restores : goal.returns-in-Ok-clause-restores
returns-in-Ok-clause-restores c = restores_on c.take_entry.result c.args.bytes.now c.in-Ok.entry c.args.shard.now c.take_entry.new.shard c.in-Ok.ensures.entry c.take_entry.ensures.settled c.take_entry.ensures.none_due
