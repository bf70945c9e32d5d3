use Rattle.std.proofs.Common.{◌≡◌, ◌+◌, ◌++◌, ◌<◌, ◌≤◌, All, length, map, reverse, vec_len, vec_capacity, []}
use Rattle.lane_queue.specs.Grid.{ends_of}
use Rattle.pipeline.specs.Made.{NumberedFrom}
use Rattle.pipeline.proofs.lanes.lane_jobs.Given as goal

abbrev pub invariant-loop-senders : goal.invariant-loop-senders
invariant-loop-senders g l = (vec_len l.jobs + vec_len l.acceptors ≡ vec_len l.fn.acceptors) × (vec_len l.columns ≡ vec_len l.acceptors)
    × All (λ c. 0 < length c.items) l.columns.items
    × All (λ job. (job.lane.number ≡ job.number) × (job.room.items ≡ []) × (length job.lane.ports ≤ vec_capacity job.room)) l.jobs.items
    × (l.fn.acceptors.items ≡ l.acceptors.items ++ map (λ job. job.acceptor) (reverse l.jobs.items))
    × (ends_of l.fn.columns.items ≡ ends_of l.columns.items ++ map (λ job. job.lane.ports) (reverse l.jobs.items))
    × NumberedFrom (vec_len l.acceptors) (map (λ job. job.number) (reverse l.jobs.items))
    × All (λ job. (job.lane.connected ≡ 0) × (job.lane.keeps_doubles ≡ l.fn.keeps_doubles)) l.jobs.items
    × (vec_len l.fn.acceptors ≤ vec_capacity l.jobs) × (vec_len l.fn.acceptors ≤ vec_capacity l.acceptors)

abbrev pub decreases-loop-senders : goal.decreases-loop-senders
decreases-loop-senders g l = vec_len l.acceptors
