use Rattle.shard_restore.proofs.TakenAgain.{restores_none}
use Rattle.shard_restore.proofs.laws.new_is_restored.Goals as goal

pub returns : goal.returns
returns c = restores_none
