use Rattle.std.proofs.Common.{◌≡◌, ◌+◌, ◌++◌, length, map, vec_len, vec_capacity}
use Rattle.pipeline.proofs.lanes.acceptors_of.Given as goal

abbrev pub invariant-loop-job : goal.invariant-loop-job
invariant-loop-job g l = (l.yielded ++ l.job-iterator.rest.items ≡ l.fn.jobs.items)
    × (vec_len l.acceptors + length l.job-iterator.rest.items ≡ vec_len l.fn.acceptors + vec_len l.fn.jobs) × (vec_capacity l.acceptors ≡ vec_capacity l.fn.acceptors)
    × (l.acceptors.items ≡ l.fn.acceptors.items ++ map (λ job. job.acceptor) l.yielded)
