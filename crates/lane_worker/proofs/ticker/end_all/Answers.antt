use Rattle.std.proofs.Common.{arith, ◌<◌, length, ap}
use Rattle.lane_worker.specs.Serving.{with_end}
use Rattle.lane_worker.proofs.Ends.{mapped_set}
use Rattle.lane_worker.proofs.ticker.end_all.Goals as goal

pub loop-sender-preserved : goal.loop-sender-preserved
loop-sender-preserved g c =
    let lt : c.loop-sender.sender-index < length c.args.senders.now.items = omega (arith, ap length c.deref_mut-sender-items.ensures.value, c.loop-sender-test.true) in
    mapped_set (with_end c.args.number) c.args.senders.now.items c.loop-sender.sender-items c.loop-sender.sender-index c.sender-item.result _ lt c.loop-sender.invariant c.push.ensures.taken.0
