use Rattle.std.proofs.Common.{arith}
use Rattle.std.proofs.lemmas.Bool.Decides.{nat_tests}
use Rattle.shard_journal.proofs.Touching.{touched_more}
use Rattle.shard_journal.proofs.noted.count_touched.Goals as goal

pub loop-i-preserved : goal.loop-i-preserved
loop-i-preserved c = let e = touched_more c.args.verdict c.args.touches.now c.loop-i.i c.index-touches-i.result (omega arith) c.index-touches-i.is in grind (arith, nat_tests, e)
