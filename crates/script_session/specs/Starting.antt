-- The shards of a run before its first line: words of private functions.
use Rattle.std.specs.Prelude.{◌≡◌, ℕ, Bool, false, List, [], Option, Some, length, replicate}
use Rattle.tsc_config.specs.declared.config.Config.{Config}
use Rattle.shard_core.specs.Held.{Held, settings}
use Rattle.script_session.specs.Pulling.{Export, HaveSettings, IsQuiet, AreQuiet, HasReleasedAll, HaveReleased, ends_of}
use Rattle.config_shards.specs.Shards.{settings_by}
use Rattle.policy_tree.specs.Meaning.{meaning}
use Rattle.rate_budget.specs.Budget.{limiter_counts}
use Rattle.rate_budget.specs.declared.count.LimiterCount.{LimiterCount}
use Rattle.span_sink.specs.LineSinks.{up_state}
use Rattle.script_run.specs.Connections.{Contacts}

-- a shard of this configuration that has taken nothing
abbrev pub IsNew : Config → Held → Type 0
IsNew config h = (settings h ≡ settings_by config) × IsQuiet (ends_of config.lanes false) h × HasReleasedAll h []

-- shards of this configuration, of this number, that have taken nothing
abbrev pub AreNew : Config → (shards : ℕ) → List Held → Type 0
AreNew config shards made = (length made ≡ shards) × HaveSettings (settings_by config) made × AreQuiet (ends_of config.lanes false) made × HaveReleased made (replicate shards [])

-- a session of this configuration that has seen no line, over a sink that has taken these bytes and failed so often
pub record IsStart (config : Config) (taken : Option (List ℕ)) (failures : ℕ) (contacts : Contacts) (shards : List Held) (limiter : List LimiterCount) (output : Export) (queue : ℕ) (keeps_doubles closed : Bool) : Type 0 where
  pub contacts_are : contacts ≡ record { connections = []; connected = replicate config.lanes 0 }
  pub shards_are : AreNew config config.shards shards
  pub limiter_is : limiter ≡ limiter_counts (meaning config.policies) []
  pub sink_is : output.0.sink ≡ up_state taken failures
  pub nothing_counted : output.1 ≡ Some (replicate 9 0)
  pub batch_is : output.0.size ≡ config.send_batch_size
  pub queue_is : queue ≡ config.queue_capacity
  pub doubles_are : keeps_doubles ≡ config.keeps_doubles
  pub is_open : closed ≡ false
