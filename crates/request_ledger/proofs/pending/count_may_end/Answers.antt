-- None is counted among those that are passed over.
use Rattle.std.proofs.Common.{arith}
use Rattle.request_ledger.proofs.Ends.{passed_count}
use Rattle.request_ledger.proofs.pending.count_may_end.Goals as goal

pub loop-i-init : goal.loop-i-init
loop-i-init c = (omega (arith, passed_count c.args.end.now c.args.first c.args.spans.now c.args.ended.now c.requires.front.1), omega arith)
