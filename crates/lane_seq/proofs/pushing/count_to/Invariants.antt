use Rattle.std.proofs.Common.{◌≡◌, ◌≤◌, take}
use Rattle.lane_seq.specs.Pushes.{count_to}
use Rattle.lane_seq.proofs.pushing.count_to.Given as goal

abbrev pub invariant-loop-arrival : goal.invariant-loop-arrival
invariant-loop-arrival l = record {
  counted : l.count ≡ count_to l.shard l.shards (take l.arrival-index l.arrivals);
  within : l.count ≤ l.arrival-index;
}
