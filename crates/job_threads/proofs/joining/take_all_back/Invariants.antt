use Rattle.std.proofs.Common.{◌≡◌, ◌+◌, ◌++◌, ◌≤◌, All, vec_len, vec_capacity, map, reverse}
use Rattle.job_threads.proofs.joining.take_all_back.Given as goal

-- what came back, and then what is to come, are all jobs
abbrev pub invariant-loop-handle : goal.invariant-loop-handle
invariant-loop-handle g l = (l.jobs.items ++ reverse (map (λ h. h.promise.job.value) l.handles.items) ≡ l.fn.begun.jobs.items ++ reverse (map (λ h. h.promise.job.value) l.fn.begun.handles.items))
    × (vec_len l.jobs + vec_len l.handles ≤ vec_capacity l.jobs)
    × All (λ h. h.promise.word.now.id ≡ l.fn.token.of) l.handles.items

abbrev pub decreases-loop-handle : goal.decreases-loop-handle
decreases-loop-handle g l = vec_len l.handles
