-- The program's outcomes and exit statuses.
use Rattle.std.specs.Prelude.{ℕ, Bool, Result, Ok, Err, if◌then◌else◌}
use Rattle.drop_ledger.specs.declared.report.Report.{Report}
use Rattle.script_session.specs.declared.fault.ReplayFault.{ReplayFault}
use Rattle.script_session.specs.declared.fault.ReplayFault.TheVariants.{NoMemory as NoRoom, Refused, Fault, CounterOverflow as Overflows, SinkDown as Fails}
use Rattle.collector_commands.specs.declared.outcome.Outcome.{Outcome}
use Rattle.collector_commands.specs.declared.outcome.Outcome.TheVariants.{Done, SinkDown, Usage, Unreadable, Configuration, Script, NoMemory, CounterOverflow, CannotListen, CannotWrite, Valid, Faulty, Help, Version, Closed, CannotClose, Shown, NotShown}

-- how the program ends after a script's run with this answer
abbrev pub outcome_of : Result Report ReplayFault → Outcome
outcome_of (Ok report) = Done report
outcome_of (Err NoRoom) = NoMemory
outcome_of (Err (Refused line)) = Script line
outcome_of (Err (Fault line)) = Script line
outcome_of (Err Overflows) = CounterOverflow
outcome_of (Err (Fails report)) = SinkDown

-- the exit status: a fault in writing the last text counts only where all else was done
abbrev pub exit_status : Outcome → (written : Bool) → ℕ
exit_status (Done report) written = if written then 0 else 1
exit_status SinkDown written = 1
exit_status Usage written = 2
exit_status Unreadable written = 3
exit_status (Configuration fault) written = 3
exit_status (Script line) written = 4
exit_status NoMemory written = 5
exit_status CounterOverflow written = 7
exit_status CannotListen written = 6
exit_status CannotWrite written = 1
exit_status (Faulty lines) written = 3
exit_status Closed written = 0
exit_status CannotClose written = 6
exit_status Valid written = if written then 0 else 1
exit_status (Shown line) written = if written then 0 else 1
exit_status (NotShown said) written = 4
exit_status Help written = if written then 0 else 1
exit_status Version written = if written then 0 else 1
