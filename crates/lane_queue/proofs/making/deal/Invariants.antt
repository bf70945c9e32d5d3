use Rattle.std.proofs.Common.{◌≡◌, ◌++◌, length, vec_len}
use Rattle.lane_queue.specs.Grid.{ends_of, dealt}
use Rattle.lane_queue.proofs.making.deal.Given as goal

abbrev pub invariant-loop-sender : goal.invariant-loop-sender
invariant-loop-sender g l = (l.place ≡ length l.yielded) × (vec_len l.columns ≡ vec_len l.fn.columns) × (l.yielded ++ l.sender-iterator.rest.items ≡ l.fn.row.items)
    × (ends_of l.columns.items ≡ dealt (ends_of l.fn.columns.items) l.yielded)
