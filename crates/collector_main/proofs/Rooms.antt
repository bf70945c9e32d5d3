-- A run by a configuration is one by any other that differs from it only in how many spans wait for the output.
-- For what `export_on` ensures.
use Rattle.std.proofs.Common.{ℕ, List, Option, Result, Ok, Err}
use Rattle.drop_ledger.specs.declared.report.Report.{Report}
use Rattle.span_sink.specs.LineSinks.{LineSinkState}
use Rattle.pipeline.specs.Promise.{IsCoreRunTo, IsCoreRunBeyondTo, CoreRunTellsTo}
use Rattle.span_sink.specs.Manners.{Manner}
use Rattle.pipeline.specs.declared.fault.ServeFault.{ServeFault}
use Rattle.pipeline.specs.declared.fault.ServeFault.TheVariants.{NoMemory, CounterOverflow, SinkDown}
use Rattle.tsc_config.specs.declared.config.Config.{Config}

abbrev pub with_room : Config → (room : ℕ) → Config
with_room config room = record config { export_capacity = room }

run : (manner : Manner) (config : Config) (room : ℕ) (old new : LineSinkState) (report : List ℕ) → IsCoreRunTo manner (with_room config room) old new report → IsCoreRunTo manner config old new report
run manner config room old new report r = record { threads = r.threads; end = r.end; ran = r.ran; reports = r.reports; fits = r.fits; never_full = r.never_full; moments = r.moments; same_ticks = r.same_ticks; holds = r.holds }

beyond : (manner : Manner) (config : Config) (room : ℕ) (old new : LineSinkState) → IsCoreRunBeyondTo manner (with_room config room) old new → IsCoreRunBeyondTo manner config old new
beyond manner config room old new r = record { threads = r.threads; end = r.end; ran = r.ran; passes = r.passes; never_full = r.never_full; moments = r.moments; same_ticks = r.same_ticks; holds = r.holds }

pub tells : (manner : Manner) (config : Config) (room : ℕ) (taken : Option (List ℕ)) (failures : ℕ) (taken_after : Option (List ℕ)) (failures_after : ℕ) (answer : Result Report ServeFault)
    → CoreRunTellsTo manner (with_room config room) taken failures taken_after failures_after answer → CoreRunTellsTo manner config taken failures taken_after failures_after answer
tells manner config room taken failures taken_after failures_after (Ok report) r = run manner config room _ _ report r
tells manner config room taken failures taken_after failures_after (Err NoMemory) r = tt
tells manner config room taken failures taken_after failures_after (Err CounterOverflow) r = (r.0, beyond manner config room _ _ r.1)
tells manner config room taken failures taken_after failures_after (Err (SinkDown report)) r = run manner config room _ _ report r
