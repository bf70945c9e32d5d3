use Rattle.std.proofs.Common.{◌≡◌, ◌≤◌, vec_len, vec_capacity}
use Rattle.lane_queue.specs.Grid.{ends_of, dealt}
use Rattle.lane_queue.proofs.reuniting.take_row.Given as goal

abbrev pub invariant-loop-place : goal.invariant-loop-place
invariant-loop-place g l = (vec_len l.row ≡ l.place) × (vec_len l.columns ≡ vec_len l.fn.columns) × (vec_len l.fn.columns ≤ vec_capacity l.row)
    × (dealt (ends_of l.columns.items) l.row.items ≡ ends_of l.fn.columns.items)
