-- Worked rows of the settings of a configuration's shards, by computation. No clause needs them: they show what
-- `settings_by` says, which code and contracts follow.
use Rattle.std.specs.Prelude.{[], ◌∷◌, Some, ◌≡◌, refl}
use Rattle.tsc_config.specs.declared.config.Config.{Config}
use Rattle.config_shards.specs.Shards.{settings_by}

-- three lanes, and four shards of 103 traces; 50 of those that were sampled are remembered, and 20 of the others
abbrev with_numbers : Config → Config
with_numbers config = record config { decision_wait = 10; root_wait = 3; maximum_trace_size = 9; num_traces = 103; sampled_cache_size = 50; non_sampled_cache_size = 20; lanes = 3; shards = 4 }

-- the traces of a shard
pub traces : (config : Config) → (settings_by (with_numbers config)).num_traces ≡ Some 25
traces config = refl

-- its waits, the greatest size of a trace, its caches and its senders
pub settings : (config : Config) → let s = settings_by (with_numbers config) in s.decision_wait ∷ s.root_wait ∷ s.maximum_trace_size ∷ s.sampled_cache_size ∷ s.non_sampled_cache_size ∷ s.senders ∷ [] ≡ 10 ∷ 3 ∷ 9 ∷ 12 ∷ 5 ∷ 4 ∷ []
settings config = refl
