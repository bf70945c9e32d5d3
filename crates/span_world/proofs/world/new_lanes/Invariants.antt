use Rattle.std.proofs.Common.{◌≡◌, replicate}
use Rattle.world_theory.specs.World.{new_lane}
use Rattle.span_world.proofs.world.new_lanes.Given as goal

abbrev pub invariant-loop-i : goal.invariant-loop-i
invariant-loop-i l = l.lanes.items ≡ replicate l._i new_lane
