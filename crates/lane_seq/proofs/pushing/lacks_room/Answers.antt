use Rattle.std.proofs.Common.{refl}
use Rattle.lane_seq.specs.Pushes.{FitsAt}
use Rattle.lane_seq.proofs.PushSteps.{one_more}
use Rattle.lane_seq.proofs.pushing.lacks_room.Goals as goal

pub loop-shard-preserved : goal.loop-shard-preserved
loop-shard-preserved g c = one_more (FitsAt g.P.Port.fits c.args.ports.now c.args.arrivals.now) c.loop-shard.shard c.loop-shard.invariant (c.lacks_room_at.ensures.fits c.if-lacks_room_at.false)
