use Rattle.woven_laws.proofs.Shards.{threads_decide_in_time}
use Rattle.woven_laws.proofs.laws.threads_decide_in_time.Goals as goal

pub returns : goal.returns
returns c = threads_decide_in_time
