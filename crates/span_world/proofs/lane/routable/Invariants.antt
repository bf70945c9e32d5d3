use Rattle.std.proofs.Common.{◌≡◌, filter, take}
use Rattle.world_theory.specs.Step.{has_ids}
use Rattle.span_world.proofs.lane.routable.Given as goal

abbrev pub invariant-loop-arrival : goal.invariant-loop-arrival
invariant-loop-arrival l = l.routable.items ≡ filter has_ids (take l.arrival-index l.new)
