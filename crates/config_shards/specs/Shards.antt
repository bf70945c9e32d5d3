-- The shards of a configuration.
use Rattle.std.specs.Prelude.{◌≡◌, ◌+◌, ◌/◌, ◌<◌, ◌≤◌, false, [], replicate}
use Rattle.journal_theory.specs.Journal.{Settings}
use Rattle.shard_core.specs.Held.{Held, StandsFor, has_due, is_finished, settings, settings_of}
use Rattle.tsc_config.specs.declared.config.Config.{Config}

-- the settings of each shard: its share of the traces and of the caches; its senders are the lanes and the ticker
abbrev pub settings_by : Config → Settings
settings_by config = settings_of config.policies (record { decision_wait = config.decision_wait; root_wait = config.root_wait; maximum_trace_size = config.maximum_trace_size }) (config.num_traces / config.shards) (config.sampled_cache_size / config.shards) (config.non_sampled_cache_size / config.shards) (config.lanes + 1)

-- What is asked of a configuration, by those who make shards of it, replay by it, or begin threads by it: parts of
-- `InRange`, which holds of each that was read.
abbrev pub CanMakeShards : Config → Type 0
CanMakeShards config = record {
  waits : 0 < config.decision_wait;
  some_shard : 0 < config.shards;
  each_keeps : config.shards ≤ config.num_traces;
}

abbrev pub CanReplay : Config → Type 0
CanReplay config = record {
  waits : 0 < config.decision_wait;
  some_lane : 0 < config.lanes;
  some_shard : 0 < config.shards;
  each_keeps : config.shards ≤ config.num_traces;
  queue : 0 < config.queue_capacity;
  batch : 0 < config.send_batch_size;
}

abbrev pub CanBegin : Config → Type 0
CanBegin config = record {
  waits : 0 < config.decision_wait;
  some_lane : 0 < config.lanes;
  some_shard : 0 < config.shards;
  few_shards : config.shards ≤ 64;
  each_keeps : config.shards ≤ config.num_traces;
  queue : 0 < config.queue_capacity;
  export : 0 < config.export_capacity;
  batch : 0 < config.send_batch_size;
}

-- a shard of this configuration that has taken nothing
abbrev pub IsNewShard : Config → Held → Type 0
IsNewShard config shard =
    StandsFor shard [] 0 × (has_due shard ≡ false) × (is_finished shard ≡ false) × (settings shard ≡ settings_by config) × (shard.policies ≡ config.policies)
    × (shard.standing.ends ≡ replicate (config.lanes + 1) false)
