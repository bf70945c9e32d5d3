-- What the lanes of a run did, beside what is said of the core's run: each served its connections as its driver said.
use Rattle.std.specs.Prelude.{◌≡◌, ℕ, ◌<◌, Bool, false, List, Option, Some, slice_get, Result}
use Rattle.drop_ledger.specs.declared.report.Report.{Report}
use Rattle.otlp_types.specs.declared.arrival.Arrival.{Arrival}
use Rattle.lane_worker.specs.Serving.{LaneAt}
use Rattle.span_sink.specs.Manners.{Manner}
use Rattle.span_sink.specs.LineSinks.{LineSinkState}
use Rattle.span_weave.specs.Threads.{Threads}
use Rattle.run_weave.specs.Ran.{LaneRan}
use Rattle.tsc_config.specs.declared.config.Config.{Config}
use Rattle.pipeline.specs.declared.fault.ServeFault.{ServeFault}
use Rattle.pipeline.specs.Promise.{AnswerTells, IsCoreRunTo, IsCoreRunBeyondTo}

module _ (manner : Manner) {F : Type 0} (receives : ℕ → F → LaneAt → List Arrival → F → LaneAt → List Arrival → Bool → Type 0) (config : Config) (servers : List F) where
  -- what the core's run has of a lane came of the connections that its server served, in the server's way
  pub record LanesRan (threads : Threads) : Type 0 where
    -- whether a lane stopped since a number of its own would have passed 2^64-1
    pub stopped : (lane : ℕ) → Bool
    pub ran : (lane : ℕ) (server : F) → slice_get servers lane ≡ Some server
        → LaneRan receives config.keeps_doubles config.queue_capacity lane config.shards server (threads.received lane) (threads.tries lane) (stopped lane)

  -- a run of the core whose lanes did so, each to the end
  pub record IsServedRun (old new : LineSinkState) (report : List ℕ) : Type 0 where
    pub core : IsCoreRunTo manner config old new report
    pub lanes : LanesRan core.threads
    pub none_stopped : (lane : ℕ) → lane < config.lanes → lanes.stopped lane ≡ false

  -- the same of a run some of whose counts passes 2^64-1
  pub record IsServedRunBeyond (old new : LineSinkState) : Type 0 where
    pub core : IsCoreRunBeyondTo manner config old new
    pub lanes : LanesRan core.threads

  -- what each answer tells of it
  abbrev pub ServedRunTells : (taken : Option (List ℕ)) → (failures : ℕ) → (taken_after : Option (List ℕ)) → (failures_after : ℕ) → Result Report ServeFault → Type 0
  ServedRunTells = AnswerTells IsServedRun IsServedRunBeyond
