-- Worked rows of a run's configuration, by computation. No clause needs them: they show what `core_of` says, which the
-- contracts of `pipeline` follow.
use Rattle.std.specs.Prelude.{[], ◌∷◌, Some, ◌≡◌, refl}
use Rattle.tsc_config.specs.declared.config.Config.{Config}
use Rattle.pipeline.specs.Promise.{core_of}

-- three lanes, and four shards of 103 traces; 50 of those that were sampled are remembered, and 20 of the others;
-- batches of 7
abbrev with_numbers : Config → Config
with_numbers config = record config { decision_wait = 10; root_wait = 3; maximum_trace_size = 9; num_traces = 103; sampled_cache_size = 50; non_sampled_cache_size = 20; lanes = 3; shards = 4; send_batch_size = 7 }

-- the traces of a shard
pub traces : (config : Config) → (core_of (with_numbers config)).shard.num_traces ≡ Some 25
traces config = refl

-- its waits, the greatest size of a trace, its caches and the batches
pub core : (config : Config) → let c = core_of (with_numbers config) in c.shard.decision_wait ∷ c.shard.root_wait ∷ c.shard.maximum_trace_size ∷ c.shard.sampled_cache_size ∷ c.shard.non_sampled_cache_size ∷ c.batch_size ∷ [] ≡ 10 ∷ 3 ∷ 9 ∷ 12 ∷ 5 ∷ 7 ∷ []
core config = refl
