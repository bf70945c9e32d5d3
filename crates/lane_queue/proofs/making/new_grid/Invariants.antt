use Rattle.std.proofs.Common.{◌≡◌, ◌≤◌, vec_len, vec_capacity}
use Rattle.lane_queue.specs.Grid.{ends_of, ColumnsWaitAs}
use Rattle.lane_queue.proofs.Grids.{Growing}
use Rattle.lane_queue.proofs.making.new_grid.Given as goal

abbrev pub invariant-loop : goal.invariant-loop
invariant-loop g l = (vec_len l.columns ≡ l.senders) × (vec_len l.all ≡ l.counter) × (l.receivers ≤ vec_capacity l.all) × Growing l.senders l.counter (ends_of l.columns.items) l.all.items
    × ColumnsWaitAs l.waits (ends_of l.columns.items)
