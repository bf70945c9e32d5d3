-- The reports of answers are those of closed runs.
-- For the law `answered_reports_add_up`.
use Rattle.std.proofs.Common.{ℕ, List, Some, Ok, Err}
use Rattle.pipeline.specs.declared.fault.ServeFault.TheVariants as serve_fault
use Rattle.pipeline.specs.Promise.{core_to, IsCoreRunTo}
use Rattle.span_sink.specs.Manners.{Manner}
use Rattle.script_session.specs.declared.fault.ReplayFault.TheVariants as replay_fault
use Rattle.script_session.specs.Replay.{ReplayRun, ClosesWith}
use Rattle.span_sink.specs.LineSinks.{LineSinkState}
use Rattle.tsc_config.specs.declared.config.Config.{Config}
use Rattle.tsc_script.specs.Instructions.{Instruction}
use Rattle.report_laws.specs.Reports.{ReportAddsUp}
use Rattle.report_laws.specs.Answers.{ServeAnswersAddUp, ReplayAnswersAddUp}
use Rattle.report_laws.proofs.Told.{serve_adds_up, replay_adds_up}

core_run : (manner : Manner) (config : Config) (old new : LineSinkState) (report : List ℕ) → IsCoreRunTo manner config old new report → ReportAddsUp report
core_run manner config old new report h = serve_adds_up (core_to manner config) config.lanes config.shards h.threads h.end report h.holds h.reports

pub serve_answers : ServeAnswersAddUp
serve_answers manner config taken failures taken_after failures_after (Ok report) h = core_run manner config _ _ report h
serve_answers manner config taken failures taken_after failures_after (Err (serve_fault.SinkDown report)) h = core_run manner config _ _ report h
serve_answers manner config taken failures taken_after failures_after (Err serve_fault.NoMemory) h = tt
serve_answers manner config taken failures taken_after failures_after (Err serve_fault.CounterOverflow) h = tt

closed_run : (run : ReplayRun) (last : LineSinkState) (report : List ℕ) (played : List Instruction) → ClosesWith run last (Some report) played → ReportAddsUp report
closed_run run last report played h = replay_adds_up run.settings run.sizes run.lanes run.shards h.0.after report h.0.is_run h.1 h.0.reports

pub replay_answers : ReplayAnswersAddUp
replay_answers run (Ok report) h = closed_run run _ report h.0.0 h.0.2
replay_answers run (Err (replay_fault.SinkDown report)) h = closed_run run _ report _ h.1
replay_answers run (Err replay_fault.NoMemory) h = tt
replay_answers run (Err (replay_fault.Refused line)) h = tt
replay_answers run (Err (replay_fault.Fault line)) h = tt
replay_answers run (Err replay_fault.CounterOverflow) h = tt
