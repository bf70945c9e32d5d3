use Rattle.std.proofs.Common.{arith, get_or}
use Rattle.inflate.specs.Checksum.{divided_by}
use Rattle.inflate.proofs.Remainders.{entry_more}
use Rattle.inflate.proofs.checksum.next_table.Goals as goal

pub loop-i-preserved : goal.loop-i-preserved
loop-i-preserved c = entry_more (λ k. divided_by 8 (get_or c.args.table.now k 0)) c.loop-i.next c.loop-i.i _ (omega arith) c.loop-i.invariant c.eight_more.ensures
