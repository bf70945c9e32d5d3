-- What a run's lanes did, where nothing is said of the ticks.
-- For the clause `driven` of `serve_on`.
use Rattle.std.proofs.Common.{ℕ, Bool, List, Option}
use Rattle.std.specs.Prelude.{Result, Ok, Err}
use Rattle.drop_ledger.specs.declared.report.Report.{Report}
use Rattle.otlp_types.specs.declared.arrival.Arrival.{Arrival}
use Rattle.lane_worker.specs.Serving.{LaneAt}
use Rattle.tsc_config.specs.declared.config.Config.{Config}
use Rattle.pipeline.specs.declared.fault.ServeFault.{ServeFault}
use Rattle.pipeline.specs.declared.fault.ServeFault.TheVariants.{NoMemory, CounterOverflow, SinkDown}
use Rattle.pipeline.specs.Promise.{RunTellsTo}
use Rattle.span_sink.specs.Manners.{Manner}
use Rattle.collector_serve.specs.Driven.{ServedRunTells}

module _ (manner : Manner) {F T : Type 0} (receives : ℕ → F → LaneAt → List Arrival → F → LaneAt → List Arrival → Bool → Type 0) (ticks_give : T → Option ℕ → T → Type 0) (config : Config) (servers : List F) (ticks : T) where
  pub served_told : (taken : Option (List ℕ)) (failures : ℕ) (taken_after : Option (List ℕ)) (failures_after : ℕ) (answer : Result Report ServeFault) → RunTellsTo manner receives ticks_give config servers ticks taken failures taken_after failures_after answer
      → ServedRunTells manner receives config servers taken failures taken_after failures_after answer
  served_told taken failures taken_after failures_after (Ok report) h = record {
    core = record { threads = h.ran.threads; end = h.ran.end; ran = h.ran.ran; reports = h.reports; fits = h.fits; never_full = h.never_full; moments = h.ran.moments; same_ticks = h.ran.same_ticks; holds = h.holds };
    lanes = record { stopped = h.ran.stopped; ran = h.ran.lanes_ran };
    none_stopped = h.none_stopped;
  }
  served_told taken failures taken_after failures_after (Err (SinkDown report)) h = record {
    core = record { threads = h.ran.threads; end = h.ran.end; ran = h.ran.ran; reports = h.reports; fits = h.fits; never_full = h.never_full; moments = h.ran.moments; same_ticks = h.ran.same_ticks; holds = h.holds };
    lanes = record { stopped = h.ran.stopped; ran = h.ran.lanes_ran };
    none_stopped = h.none_stopped;
  }
  served_told taken failures taken_after failures_after (Err NoMemory) h = tt
  served_told taken failures taken_after failures_after (Err CounterOverflow) h = (
    h.0,
    record {
      core = record { threads = h.1.ran.threads; end = h.1.ran.end; ran = h.1.ran.ran; passes = h.1.passes; never_full = h.1.never_full; moments = h.1.ran.moments; same_ticks = h.1.ran.same_ticks; holds = h.1.holds };
      lanes = record { stopped = h.1.ran.stopped; ran = h.1.ran.lanes_ran };
    },
  )
