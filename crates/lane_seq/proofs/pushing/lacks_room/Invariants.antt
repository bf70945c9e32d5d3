use Rattle.std.proofs.Common.{ℕ, ◌<◌}
use Rattle.lane_seq.specs.Pushes.{FitsAt}
use Rattle.lane_seq.proofs.pushing.lacks_room.Given as goal

abbrev pub invariant-loop-shard : goal.invariant-loop-shard
invariant-loop-shard g l = (k : ℕ) → k < l.shard → FitsAt g.P.Port.fits l.ports l.arrivals k
