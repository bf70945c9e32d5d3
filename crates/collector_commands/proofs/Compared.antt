-- What a comparison tells of its outcome.
-- For what `compare_by` ensures.
use Rattle.std.proofs.Common.{◌≡◌, ℕ, List, Result}
use Rattle.drop_ledger.specs.declared.report.Report.{Report}
use Rattle.tsc_config.specs.declared.config.Config.{Config}
use Rattle.script_session.specs.Comparing.{BothPlayed}
use Rattle.collector_commands.specs.Configuration.{IsConfigOf}
use Rattle.collector_commands.specs.declared.configuration.FileFault.{FileFault}
use Rattle.collector_commands.specs.declared.outcome.Outcome.{Outcome}
use Rattle.collector_commands.specs.declared.outcome.Outcome.TheVariants as is
use Rattle.collector_commands.specs.Courses.{Course, Compares, IsTold}

-- both configurations were read, and both runs came to their reports
module _ (course : Course) (new_file : Result (List ℕ) FileFault) (old new : Config) (old_report new_report : Report) where
  pub compares_told : (outcome : Outcome) → IsConfigOf course.file old → IsConfigOf new_file new → BothPlayed old new course.unread course.unread_after old_report new_report
      → course.taken_after ≡ course.taken → IsTold outcome → Compares course new_file outcome
  compares_told (is.Shown text) old_is new_is both same told = ((old, new, old_is, new_is, old_report, new_report, both), same)
  compares_told is.NoMemory old_is new_is both same told = same
  compares_told (is.Done report) old_is new_is both same told = absurd told
  compares_told is.SinkDown old_is new_is both same told = same
  compares_told is.Usage old_is new_is both same told = absurd told
  compares_told is.Unreadable old_is new_is both same told = absurd told
  compares_told (is.Configuration fault) old_is new_is both same told = absurd told
  compares_told (is.Script line) old_is new_is both same told = same
  compares_told is.CounterOverflow old_is new_is both same told = same
  compares_told is.CannotListen old_is new_is both same told = absurd told
  compares_told is.CannotWrite old_is new_is both same told = absurd told
  compares_told is.Valid old_is new_is both same told = absurd told
  compares_told (is.Faulty text) old_is new_is both same told = absurd told
  compares_told is.Closed old_is new_is both same told = absurd told
  compares_told is.CannotClose old_is new_is both same told = absurd told
  compares_told (is.NotShown text) old_is new_is both same told = absurd told
  compares_told is.Help old_is new_is both same told = absurd told
  compares_told is.Version old_is new_is both same told = absurd told
