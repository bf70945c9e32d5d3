-- A run by a configuration whose lanes wait for room is one by any that differs from it in that alone, and doesn't wait where
-- it doesn't.
-- For what `serve_with` ensures.
use Rattle.std.proofs.Common.{◌≡◌, ℕ, Bool, true, false, List, Option, Result, Ok, Err, inl, inr, refl, subst, sym}
use Rattle.std.specs.Prelude.{◌||◌}
use Rattle.drop_ledger.specs.declared.report.Report.{Report}
use Rattle.span_sink.specs.LineSinks.{LineSinkState}
use Rattle.span_sink.specs.Manners.{Manner, takes_all, may_refuse, prints_refused}
use Rattle.pipeline.specs.Promise.{IsCoreRunTo, IsCoreRunBeyondTo, CoreRunTellsTo}
use Rattle.pipeline.specs.declared.fault.ServeFault.{ServeFault}
use Rattle.pipeline.specs.declared.fault.ServeFault.TheVariants.{NoMemory, CounterOverflow, SinkDown}
use Rattle.collector_commands.specs.declared.outcome.Outcome.{Outcome}
use Rattle.tsc_config.specs.declared.config.Config.{Config}
use Rattle.collector_main.specs.Serving.{TakesTo, SendsTo, RunsTo}

abbrev pub waiting : Config → (waits : Bool) → Config
waiting config waits = record config { waits_for_room = waits }

module _ (config : Config) (waits : Bool) (same : config.waits_for_room ≡ true → waits ≡ true) where
  run : (manner : Manner) (old new : LineSinkState) (report : List ℕ) → IsCoreRunTo manner (waiting config waits) old new report → IsCoreRunTo manner config old new report
  run manner old new report r = record { threads = r.threads; end = r.end; ran = r.ran; reports = r.reports; fits = r.fits; never_full = λ e. r.never_full (same e); moments = r.moments; same_ticks = r.same_ticks; holds = r.holds }

  beyond : (manner : Manner) (old new : LineSinkState) → IsCoreRunBeyondTo manner (waiting config waits) old new → IsCoreRunBeyondTo manner config old new
  beyond manner old new r = record { threads = r.threads; end = r.end; ran = r.ran; passes = r.passes; never_full = λ e. r.never_full (same e); moments = r.moments; same_ticks = r.same_ticks; holds = r.holds }

  tells : (manner : Manner) (taken : Option (List ℕ)) (failures : ℕ) (taken_after : Option (List ℕ)) (failures_after : ℕ) (answer : Result Report ServeFault)
      → CoreRunTellsTo manner (waiting config waits) taken failures taken_after failures_after answer → CoreRunTellsTo manner config taken failures taken_after failures_after answer
  tells manner taken failures taken_after failures_after (Ok report) r = run manner _ _ report r
  tells manner taken failures taken_after failures_after (Err NoMemory) r = tt
  tells manner taken failures taken_after failures_after (Err CounterOverflow) r = (r.0, beyond manner _ _ r.1)
  tells manner taken failures taken_after failures_after (Err (SinkDown report)) r = run manner _ _ report r

  takes : (manner : Manner) (taken taken_after : Option (List ℕ)) (outcome : Outcome) → TakesTo manner (waiting config waits) taken taken_after outcome → TakesTo manner config taken taken_after outcome
  takes manner taken taken_after outcome (inl x) = inl x
  takes manner taken taken_after outcome (inr x) = inr (x.0, x.1, x.2, tells manner taken 0 taken_after x.0 x.1 x.3, x.4)

  sends : (taken taken_after : Option (List ℕ)) (outcome : Outcome) → SendsTo (waiting config waits) taken taken_after outcome → SendsTo config taken taken_after outcome
  sends taken taken_after outcome (inl x) = inl (x.0, x.1, (x.2.0, x.2.1, takes may_refuse x.2.0 x.2.1 outcome x.2.2))
  sends taken taken_after outcome (inr x) = inr (x.0, takes prints_refused taken taken_after outcome x.1)

  pub runs : (taken taken_after : Option (List ℕ)) (outcome : Outcome) → RunsTo (waiting config waits) taken taken_after outcome → RunsTo config taken taken_after outcome
  runs taken taken_after outcome (inl x) = inl (x.0, takes takes_all taken taken_after outcome x.1)
  runs taken taken_after outcome (inr x) = inr (x.0, sends taken taken_after outcome x.1)

pub waits_as : (w b : Bool) → w ≡ true → (w || b) ≡ true
waits_as true b e = refl
waits_as false b e = absurd (cc e)
