use Rattle.std.proofs.Common.{arith}
use Rattle.lane_queue.proofs.EndLists.{tied-push, new-push, waits-push}
use Rattle.lane_queue.proofs.receiver.LaneQueue.new.Goals as goal

pub loop-preserved : goal.loop-preserved
loop-preserved g c =
    rw (c.in_ok-push.ensures.items, c.in_ok-push-2.ensures.items) (
      omega (arith, c.in_ok-push.ensures.len, c.loop.invariant.0),
      tied-push _ _ _ _ c.loop.invariant.1 c.in_ok-tail.ensures.tied,
      new-push _ _ c.loop.invariant.2 c.in_ok-tail.ensures.new.0,
      new-push _ _ c.loop.invariant.3 c.in_ok-tail.ensures.new.1,
      waits-push _ _ _ c.loop.invariant.4 c.in_ok-tail.ensures.waits,
    )
