-- How the answer of a run follows from how its script was played, and from its report.
use Rattle.std.specs.Prelude.{◌≡◌, ◌⊎◌, ℕ, List, Option, Some, None, Result, Ok, Err}
use Rattle.drop_ledger.specs.declared.report.Report.{Report}
use Rattle.tsc_script.specs.declared.stop.ScriptStop.{ScriptStop}
use Rattle.tsc_script.specs.declared.stop.ScriptStop.TheVariants.{NoMemory as NothingRead, Refused as LineRefused, Fault as LineUnread, Down}
use Rattle.script_session.specs.declared.fault.ReplayFault.{ReplayFault}
use Rattle.script_session.specs.declared.fault.ReplayFault.TheVariants.{NoMemory, Refused, Fault, CounterOverflow, SinkDown}

-- each answer comes from its own cause, and its report is the run's; a count would pass 2^64-1 where there is no report
abbrev pub AnswersStop : Result (Unit {0}) ScriptStop → Option (List ℕ) → Result Report ReplayFault → Type 0
AnswersStop played report (Ok numbers) = (played ≡ Ok tt) × (report ≡ Some numbers)
AnswersStop played report (Err NoMemory) = played ≡ Err NothingRead
AnswersStop played report (Err (Refused line)) = played ≡ Err (LineRefused line)
AnswersStop played report (Err (Fault line)) = played ≡ Err (LineUnread line)
AnswersStop played report (Err CounterOverflow) = ((played ≡ Ok tt) ⊎ (played ≡ Err Down)) × (report ≡ None)
AnswersStop played report (Err (SinkDown numbers)) = (played ≡ Err Down) × (report ≡ Some numbers)
