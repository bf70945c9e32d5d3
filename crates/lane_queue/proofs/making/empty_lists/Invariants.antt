use Rattle.std.proofs.Common.{◌≡◌, ◌≤◌, All, [], vec_len, vec_capacity}
use Rattle.std.specs.Prelude.{replicate}
use Rattle.lane_queue.specs.Grid.{ends_of, HasRoom}
use Rattle.lane_queue.proofs.making.empty_lists.Given as goal

abbrev pub invariant-loop : goal.invariant-loop
invariant-loop g l = (vec_len l.lists ≡ l.counter) × (l.count ≤ vec_capacity l.lists) × (ends_of l.lists.items ≡ replicate l.counter []) × All (HasRoom l.room) l.lists.items
