use Rattle.std.proofs.Common.{◌≡◌, ◌≤◌, length, take}
use Rattle.std.specs.List.{filter}
use Rattle.lane_seq.specs.Numbers.{is_invalid}
use Rattle.lane_seq.proofs.preparing.count_invalid.Given as goal

abbrev pub invariant-loop-arrival : goal.invariant-loop-arrival
invariant-loop-arrival l = record {
  counted : l.count ≡ length (filter is_invalid (take l.arrival-index l.arrivals));
  within : l.count ≤ l.arrival-index;
}
