use Rattle.std.proofs.Common.{◌≡◌, ◌+◌, ◌++◌, ◌||◌, length, map, vec_len, vec_capacity}
use Rattle.lane_queue.specs.Grid.{ends_of}
use Rattle.std.specs.List.{list_any}
use Rattle.pipeline.proofs.gathering.gather_lanes.Given as goal

abbrev pub invariant-loop-lane : goal.invariant-loop-lane
invariant-loop-lane g l = (l.yielded ++ l.lane-iterator.rest.items ≡ l.fn.lanes.items)
    × (vec_len l.columns + length l.lane-iterator.rest.items ≡ vec_len l.fn.columns + vec_len l.fn.lanes) × (vec_capacity l.columns ≡ vec_capacity l.fn.columns)
    × (vec_len l.counted.counts + length l.lane-iterator.rest.items ≡ vec_len l.fn.counted.counts + vec_len l.fn.lanes) × (vec_capacity l.counted.counts ≡ vec_capacity l.fn.counted.counts)
    × (ends_of l.columns.items ≡ ends_of l.fn.columns.items ++ map (λ lane. lane.senders.items) l.yielded)
    × (l.counted.counts.items ≡ l.fn.counted.counts.items ++ map (λ lane. lane.counts) l.yielded)
    × (l.counted.is_full ≡ (l.fn.counted.is_full || list_any (λ lane. lane.is_full) l.yielded))
