-- Two runs over one script, side by side.
use Rattle.std.specs.Prelude.{List, Some, None}
use Rattle.drop_ledger.specs.declared.report.Report.{Report}
use Rattle.span_sink.specs.LineSinks.{up_state}
use Rattle.config_shards.specs.Shards.{settings_by}
use Rattle.tsc_config.specs.declared.config.Config.{Config}
use Rattle.tsc_script.specs.Instructions.{Instruction}
use Rattle.tsc_script.specs.Progress.{Ends}
use Rattle.tsc_script.specs.Reads.{KnownReader}
use Rattle.script_run.specs.World.{Sizes}
use Rattle.script_session.specs.Replay.{ReplayRun, LeadsIn}

-- the sizes of a run by this configuration
abbrev pub sizes_of : Config → Sizes
sizes_of config = record { batch = config.send_batch_size; queue = config.queue_capacity; keeps_doubles = config.keeps_doubles }

-- a run by this configuration whose lines are let go
abbrev pub discarded_run : Config → (unread unread_after : KnownReader) → ReplayRun
discarded_run config unread unread_after = record {
  settings = settings_by config;
  sizes = sizes_of config;
  lanes = config.lanes;
  shards = config.shards;
  taken = None;
  failures = 0;
  taken_after = None;
  failures_after = 0;
  unread = unread;
  unread_after = unread_after;
}

-- the reader was read to its end, and all that the script says, once, led both runs to their reports: each as a replay
-- by its configuration alone
abbrev pub BothPlayed : (old new : Config) → (unread unread_after : KnownReader) → (old_report new_report : Report) → Type 0
BothPlayed old new unread unread_after old_report new_report =
    (played : List Instruction) × Ends unread.left unread_after.left played
    × LeadsIn (discarded_run old unread unread_after) played (up_state None 0) (Some old_report)
    × LeadsIn (discarded_run new unread unread_after) played (up_state None 0) (Some new_report)
