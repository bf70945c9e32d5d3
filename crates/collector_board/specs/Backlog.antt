-- What waits for the backend, and how often a batch was tried.
use Rattle.std.specs.Prelude.{ℕ, ◌+◌, ◌-◌, ◌^◌, min, if◌then◌else◌, List, [], ◌∷◌}
use Rattle.batch_post.specs.Rules.{is_taken}
use Rattle.batch_post.specs.declared.outcome.AttemptOutcome.{AttemptOutcome}
use Rattle.metrics_text.specs.declared.metrics.ShardNumbers.{ShardNumbers}

-- how many tries of a batch have failed after one more, up to 2^64-1: none where it was taken
abbrev pub tries_after : (failed : ℕ) → AttemptOutcome → ℕ
tries_after failed outcome = if is_taken outcome then 0 else min (failed + 1) (2 ^ 64 - 1)

-- how many of the spans that wait are neither in a shard's queues nor in its traces, and none where these are more
abbrev pub left_by : (waiting : ℕ) → List ShardNumbers → ℕ
left_by waiting [] = waiting
left_by waiting (shard ∷ shards) = left_by (waiting - shard.queued - shard.spans) shards
