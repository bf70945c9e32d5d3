use Rattle.std.proofs.Common.{◌≡◌, ◌+◌, ◌++◌, ◌≤◌, All, map, reverse, vec_len, vec_capacity}
use Rattle.lane_queue.specs.Ends.{IsNew}
use Rattle.pipeline.specs.Made.{NumberedFrom, HasNodes, IsReady}
use Rattle.config_shards.specs.Shards.{IsNewShard}
use Rattle.pipeline.specs.Promise.{HasSettings}
use Rattle.pipeline.proofs.shards.jobs_of.Given as goal

abbrev pub invariant-loop-shard : goal.invariant-loop-shard
invariant-loop-shard g l = (vec_len l.jobs + vec_len l.shards ≡ vec_len l.fn.shards) × (vec_len l.receivers ≡ vec_len l.shards) × (vec_len l.exports ≡ vec_len l.shards) × (vec_len l.seats ≡ vec_len l.shards)
    × All (IsNewShard l.fn.config) l.shards.items × All (λ seat. HasNodes seat l.fn.config.policies) l.seats.items
    × All (λ r. All IsNew r.ends) l.receivers.items × All IsNew l.exports.items
    × All (λ job. IsReady job.shard job.receiver job.sender job.seat) l.jobs.items
    × (l.fn.ends.seats.items ≡ l.seats.items ++ map (λ job. job.seat) (reverse l.jobs.items))
    × (l.fn.ends.receivers.items ≡ l.receivers.items ++ map (λ job. job.receiver) (reverse l.jobs.items))
    × (l.fn.ends.exports.items ≡ l.exports.items ++ map (λ job. job.sender) (reverse l.jobs.items))
    × NumberedFrom (vec_len l.shards) (map (λ job. job.number) (reverse l.jobs.items))
    × All (λ job. HasSettings l.fn.config job.shard) l.jobs.items
    × (vec_len l.fn.shards ≤ vec_capacity l.jobs)

abbrev pub decreases-loop-shard : goal.decreases-loop-shard
decreases-loop-shard g l = vec_len l.shards
