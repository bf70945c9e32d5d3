-- What a replay's answer tells of its outcome.
-- For what `replay_by` ensures.
use Rattle.std.proofs.Common.{ℕ, Result, Ok, Err, inr, refl}
use Rattle.drop_ledger.specs.declared.report.Report.{Report}
use Rattle.tsc_config.specs.declared.config.Config.{Config}
use Rattle.script_session.specs.Replay.{RunEnds}
use Rattle.script_session.specs.declared.fault.ReplayFault.{ReplayFault}
use Rattle.script_session.specs.declared.fault.ReplayFault.TheVariants.{NoMemory, Refused, Fault, CounterOverflow, SinkDown}
use Rattle.collector_commands.specs.Configuration.{IsConfigOf}
use Rattle.collector_commands.specs.Outcomes.{outcome_of}
use Rattle.collector_commands.specs.Courses.{Course, run_of, Replays, RanTo}

ran : (course : Course) (config : Config) (failures : ℕ) (answer : Result Report ReplayFault) → IsConfigOf course.file config
    → RunEnds (run_of course config failures) answer → RanTo course (outcome_of answer)
ran course config failures answer read ends = record { config = config; is_read = read; failures_after = failures; answer = answer; ends = ends; outcome_is = refl }

-- what a run by a configuration answered
pub Replays-ran : (course : Course) (config : Config) (failures : ℕ) (answer : Result Report ReplayFault) → IsConfigOf course.file config
    → RunEnds (run_of course config failures) answer → Replays course (outcome_of answer)
Replays-ran course config failures (Ok report) read ends = ran course config failures (Ok report) read ends
Replays-ran course config failures (Err NoMemory) read ends = inr (ran course config failures (Err NoMemory) read ends)
Replays-ran course config failures (Err (Refused line)) read ends = ran course config failures (Err (Refused line)) read ends
Replays-ran course config failures (Err (Fault line)) read ends = ran course config failures (Err (Fault line)) read ends
Replays-ran course config failures (Err CounterOverflow) read ends = ran course config failures (Err CounterOverflow) read ends
Replays-ran course config failures (Err (SinkDown report)) read ends = ran course config failures (Err (SinkDown report)) read ends
