use Rattle.std.proofs.Common.{◌≡◌, All, vec_len}
use Rattle.lane_queue.specs.Grid.{ends_of, HasRoom}
use Rattle.lane_queue.proofs.Reunion.{Reuniting}
use Rattle.lane_queue.proofs.reuniting.reunite_grid.Given as goal

abbrev pub invariant-loop-receiver : goal.invariant-loop-receiver
invariant-loop-receiver g l = (vec_len l.rows ≡ vec_len l.receivers) × (vec_len l.columns ≡ vec_len l.fn.columns) × All (HasRoom (vec_len l.fn.columns)) l.rows.items
    × Reuniting g.C.Room.capacity (ends_of l.fn.columns.items) l.fn.receivers.items (ends_of l.columns.items) l.receivers.items

abbrev pub decreases-loop-receiver : goal.decreases-loop-receiver
decreases-loop-receiver g l = vec_len l.receivers
