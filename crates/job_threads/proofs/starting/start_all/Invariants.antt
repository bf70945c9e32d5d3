use Rattle.std.proofs.Common.{◌≡◌, ◌+◌, ◌++◌, ◌≤◌, All, vec_len, vec_capacity, map, reverse}
use Rattle.job_threads.proofs.starting.start_all.Given as goal

-- what is left to be started, and then what was started, are all jobs
abbrev pub invariant-loop-job : goal.invariant-loop-job
invariant-loop-job g l = (l.jobs.items ++ reverse (map (λ h. h.promise.job.value) l.handles.items) ≡ l.fn.jobs.items)
    × (vec_len l.jobs + vec_len l.handles ≤ vec_capacity l.handles)
    × All (λ h. h.promise.word.now.id ≡ l.fn.word.id) l.handles.items
    × All g.J.Job.ready l.jobs.items
    × (vec_len l.jobs + vec_len l.handles ≤ vec_capacity l.jobs)

abbrev pub decreases-loop-job : goal.decreases-loop-job
decreases-loop-job g l = vec_len l.jobs
