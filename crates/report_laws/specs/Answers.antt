-- What the answers of a run and of a replay say of their reports.
use Rattle.std.specs.Prelude.{ℕ, List, Option, Result, Ok, Err}
use Rattle.drop_ledger.specs.declared.report.Report.{Report}
use Rattle.tsc_config.specs.declared.config.Config.{Config}
use Rattle.pipeline.specs.declared.fault.ServeFault.{ServeFault}
use Rattle.pipeline.specs.declared.fault.ServeFault.TheVariants as serve_fault
use Rattle.pipeline.specs.Promise.{CoreRunTellsTo}
use Rattle.span_sink.specs.Manners.{Manner}
use Rattle.script_session.specs.declared.fault.ReplayFault.{ReplayFault}
use Rattle.script_session.specs.declared.fault.ReplayFault.TheVariants as replay_fault
use Rattle.script_session.specs.Replay.{ReplayRun, RunEnds}
use Rattle.report_laws.specs.Reports.{ReportAddsUp}

-- the report that a run answers adds up, at its end and after a failed write; the other answers have none
abbrev pub ServeAnswerAddsUp : Result Report ServeFault → Type 0
ServeAnswerAddsUp (Ok report) = ReportAddsUp report
ServeAnswerAddsUp (Err (serve_fault.SinkDown report)) = ReportAddsUp report
ServeAnswerAddsUp (Err serve_fault.NoMemory) = Unit {0}
ServeAnswerAddsUp (Err serve_fault.CounterOverflow) = Unit {0}

-- the same of a replay
abbrev pub ReplayAnswerAddsUp : Result Report ReplayFault → Type 0
ReplayAnswerAddsUp (Ok report) = ReportAddsUp report
ReplayAnswerAddsUp (Err (replay_fault.SinkDown report)) = ReportAddsUp report
ReplayAnswerAddsUp (Err replay_fault.NoMemory) = Unit {0}
ReplayAnswerAddsUp (Err (replay_fault.Refused line)) = Unit {0}
ReplayAnswerAddsUp (Err (replay_fault.Fault line)) = Unit {0}
ReplayAnswerAddsUp (Err replay_fault.CounterOverflow) = Unit {0}

-- each answer of which a run of the core tells so, whatever the destination, as `collector_serve`'s `serve_on` promises
abbrev pub ServeAnswersAddUp : Type 0
ServeAnswersAddUp = (manner : Manner) (config : Config) (taken : Option (List ℕ)) (failures : ℕ) (taken_after : Option (List ℕ)) (failures_after : ℕ) (answer : Result Report ServeFault)
    → CoreRunTellsTo manner config taken failures taken_after failures_after answer → ServeAnswerAddsUp answer

-- each answer at which a replay ends so, as `script_session`'s `replay_run` promises
abbrev pub ReplayAnswersAddUp : Type 0
ReplayAnswersAddUp = (run : ReplayRun) (answer : Result Report ReplayFault) → RunEnds run answer → ReplayAnswerAddsUp answer
