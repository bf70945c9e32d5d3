use Rattle.std.proofs.Common.{◌≡◌, ◌+◌, ◌≤◌, All, vec_len, vec_capacity, map, reverse}
use Rattle.job_threads.proofs.Joined.{Joined}
use Rattle.job_threads.proofs.joining.join_all.Given as goal

abbrev pub invariant-loop-handle : goal.invariant-loop-handle
invariant-loop-handle g l = Joined g.J.Job.did (reverse (map (λ h. h.promise.job.value) l.fn.handles.items)) (reverse (map (λ h. h.promise.job.value) l.handles.items)) l.lefts.items
    × (vec_len l.handles + vec_len l.lefts ≤ vec_capacity l.lefts)
    × All (λ h. h.promise.word.now.id ≡ l.fn.token.of) l.handles.items

abbrev pub decreases-loop-handle : goal.decreases-loop-handle
decreases-loop-handle g l = vec_len l.handles
