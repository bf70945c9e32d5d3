-- What a run over a script leaves of its sink.
use Rattle.std.specs.Prelude.{◌≡◌, ◌⊎◌, ◌≤◌, ℕ, true, [], ◌∷◌, ◌++◌, List, length, Option, Some, None, Result, Ok, Err, IfSome}
use Rattle.journal_theory.specs.Journal.{Settings}
use Rattle.span_sink.specs.LineSinks.{LineSinkState, up_state, down_state}
use Rattle.drop_ledger.specs.declared.report.Report.{Report}
use Rattle.tsc_script.specs.Instructions.{Instruction, close}
use Rattle.tsc_script.specs.Script.{instructions_of}
use Rattle.tsc_script.specs.Progress.{Ends, StopsAt, GoesDown}
use Rattle.tsc_script.specs.Reads.{SourceTurn, KnownReader, Gives}
use Rattle.tsc_script.specs.Causes.{IsCausedBy}
use Rattle.tsc_script.specs.declared.stop.ScriptStop.{ScriptStop}
use Rattle.tsc_script.specs.declared.stop.ScriptStop.TheVariants.{Refused as LineRefused, Fault as LineUnread}
use Rattle.script_session.specs.declared.fault.ReplayFault.{ReplayFault}
use Rattle.script_session.specs.declared.fault.ReplayFault.TheVariants.{NoMemory, Refused, Fault, CounterOverflow, SinkDown}
use Rattle.script_run.specs.World.{ScriptWorld, Sizes, new_world, PlaysAll}
use Rattle.script_run.specs.Counts.{Reports}
use Rattle.script_run.specs.Writing.{WritesAll, FailedOnce}
use Rattle.script_run.specs.CoreRun.{IsRunOfCore}

-- From the first state of the sink, these instructions lead to this one, and to these counts. What they do is a run of
-- the core, for which the headline holds; the sink has the lines of the replies and of the batches that were handed
-- over, and has failed once where it is down, else never.
pub record Leads (s : Settings) (sizes : Sizes) (lanes shards : ℕ) (first : LineSinkState) (played : List Instruction) (last : LineSinkState) (report : Option (List ℕ)) : Type 0 where
  pub after : ScriptWorld
  pub plays : PlaysAll s sizes (new_world lanes shards first) played after
  pub sink : after.sink ≡ last
  pub reports : Reports s after report
  pub is_run : IsRunOfCore s sizes lanes shards after
  pub writes : WritesAll first after.events last
  pub failed : FailedOnce first last

-- what the run knows: its settings, the sink's bytes and failures before and after, and what the reader had given and
-- had left
pub record ReplayRun : Type 0 where
  pub settings : Settings
  pub sizes : Sizes
  pub lanes : ℕ
  pub shards : ℕ
  pub taken : Option (List ℕ)
  pub failures : ℕ
  pub taken_after : Option (List ℕ)
  pub failures_after : ℕ
  pub unread : KnownReader
  pub unread_after : KnownReader

-- the sink before the first line
abbrev pub first_state : ReplayRun → LineSinkState
first_state run = up_state run.taken run.failures

-- what these instructions lead to in this run
abbrev pub LeadsIn : ReplayRun → List Instruction → LineSinkState → Option (List ℕ) → Type 0
LeadsIn run played last report = Leads run.settings run.sizes run.lanes run.shards (first_state run) played last report

-- the instructions led to the sink as it is, and no write failed
abbrev pub Played : ReplayRun → List Instruction → Type 0
Played run played = (report : Option (List ℕ)) × LeadsIn run played (up_state run.taken_after run.failures_after) report

-- the instructions led to this state of the sink and these counts, and the script is closed
abbrev pub ClosesWith : ReplayRun → LineSinkState → Option (List ℕ) → List Instruction → Type 0
ClosesWith run last report played = (leads : LeadsIn run played last report) × (leads.after.closed ≡ true)

-- a write had failed when these instructions had been played, and a close behind them, played in the world to which
-- they had led, led to this state of the sink and these counts
pub record FellBefore (run : ReplayRun) (last : LineSinkState) (report : Option (List ℕ)) (played : List Instruction) : Type 0 where
  pub mid : ScriptWorld
  pub plays : PlaysAll run.settings run.sizes (new_world run.lanes run.shards (first_state run)) played mid
  pub is_down : mid.sink.is_down ≡ true
  pub leads : LeadsIn run (played ++ close ∷ []) last report
  pub closes : PlaysAll run.settings run.sizes mid (close ∷ []) leads.after

-- the reader was read to its end, all that the script says was played, and no write failed
abbrev pub PlayedWhole : ReplayRun → Option (List ℕ) → Type 0
PlayedWhole run report = (played : List Instruction) × Ends run.unread.left run.unread_after.left played
    × ClosesWith run (up_state run.taken_after run.failures_after) report played

-- a write failed: the lines up to then were played, and behind them a close alone
abbrev pub StoppedDown : ReplayRun → Option (List ℕ) → Type 0
StoppedDown run report =
    let last = down_state run.taken_after run.failures_after in
    GoesDown (ClosesWith run last report) (FellBefore run last report) run.unread.left run.unread_after.left

-- the reads, 2^32 at most, gave why the script ended so
abbrev pub ReadsSay : ReplayRun → Result (Unit {0}) ScriptStop → Type 0
ReadsSay run played = (turns : List SourceTurn) × Gives run.unread run.unread_after turns × (length turns ≤ 4294967296) × IsCausedBy played turns

-- what each answer says of the reader, of the sink and of the counts
abbrev pub RunEnds : ReplayRun → Result Report ReplayFault → Type 0
RunEnds run (Ok report) = PlayedWhole run (Some report) × ReadsSay run (Ok tt)
RunEnds run (Err NoMemory) = (run.taken_after ≡ run.taken) × (run.failures_after ≡ run.failures) × (run.unread_after ≡ run.unread)
RunEnds run (Err (Refused line)) = StopsAt (Played run) run.unread.left run.unread_after.left line
    × IfSome run.unread.left (λ script. instructions_of script ≡ Err line) × ReadsSay run (Err (LineRefused line))
RunEnds run (Err (Fault line)) = StopsAt (Played run) run.unread.left run.unread_after.left line × ReadsSay run (Err (LineUnread line))
RunEnds run (Err CounterOverflow) = PlayedWhole run None ⊎ StoppedDown run None
RunEnds run (Err (SinkDown report)) = StoppedDown run (Some report)
