-- What the arguments ask for, and how the outcome of a replay arises.
use Rattle.std.specs.Prelude.{◌≡◌, ◌⊎◌, ⊤, ℕ, ◌||◌, ◌&&◌, List, [], ◌∷◌, Option, Some, None, Result, codes, if◌then◌else◌}
use Rattle.std.specs.Str.{bytes_eq}
use Rattle.drop_ledger.specs.declared.report.Report.{Report}
use Rattle.tsc_config.specs.declared.config.Config.{Config}
use Rattle.script_session.specs.declared.fault.ReplayFault.{ReplayFault}
use Rattle.collector_commands.specs.declared.outcome.Outcome.{Outcome}
use Rattle.collector_commands.specs.declared.outcome.Outcome.TheVariants.{Usage, Unreadable, Configuration, Script, NoMemory, CounterOverflow, CannotListen, CannotWrite, Shown, SinkDown}
use Rattle.collector_commands.specs.declared.asking.Command.{Command}
use Rattle.collector_commands.specs.declared.asking.Command.TheVariants.{Replay, Compare, Serve, Validate, Close, Show, Ledger, Help, Version}
use Rattle.collector_commands.specs.declared.asking.LedgerForm.TheVariants.{Numbers, Script as AsScript}
use Rattle.collector_commands.specs.declared.asking.Form.TheVariants.{Text, Json, Page}
use Rattle.collector_commands.specs.Outcomes.{outcome_of}
use Rattle.collector_commands.specs.Configuration.{FileFails, IsConfigOf}
use Rattle.collector_commands.specs.declared.configuration.FileFault.{FileFault}
use Rattle.config_shards.specs.Shards.{settings_by}
use Rattle.script_session.specs.Comparing.{BothPlayed}
use Rattle.script_session.specs.Replay.{ReplayRun, RunEnds}
use Rattle.tsc_script.specs.Reads.{KnownReader}

-- what the program was given, and what it left of that before its last text: its arguments, what was read from
-- the configuration's file, what its reader had given and had left, and what its writer had taken
pub record Course : Type 0 where
  pub arguments : List (List ℕ)
  pub file : Result (List ℕ) FileFault
  pub unread : KnownReader
  pub unread_after : KnownReader
  pub taken : Option (List ℕ)
  pub taken_after : Option (List ℕ)

-- what a word asks for that stands alone
unfoldable pub asked_alone : (word : List ℕ) → Option Command
asked_alone word =
    if bytes_eq word (codes "help") || (bytes_eq word (codes "-h") || bytes_eq word (codes "--help")) then Some Help
    else if bytes_eq word (codes "version") || bytes_eq word (codes "--version") then Some Version
    else if bytes_eq word (codes "show") then Some Show
    else None

-- what a word asks for that stands before the path of a configuration, or of a ledger's folder
unfoldable pub asked_by : (word : List ℕ) → Option Command
asked_by word =
    if bytes_eq word (codes "replay") then Some Replay
    else if bytes_eq word (codes "serve") then Some Serve
    else if bytes_eq word (codes "validate") then Some Validate
    else if bytes_eq word (codes "close") then Some Close
    else if bytes_eq word (codes "ledger") then Some (Ledger Numbers)
    else None

-- what a word asks for that stands before a path and a last word: the path of the second configuration of a comparison, or
-- how a ledger's folder is told
unfoldable pub asked_before : (word last : List ℕ) → Option Command
asked_before word last =
    if bytes_eq word (codes "compare") then Some (Compare Text)
    else if bytes_eq word (codes "ledger") && bytes_eq last (codes "--script") then Some (Ledger AsScript)
    else None

-- what a word asks for that stands before the paths of two configurations, by the word behind them
unfoldable pub asked_of_two : (word form : List ℕ) → Option Command
asked_of_two word form =
    if bytes_eq word (codes "compare") && bytes_eq form [] then Some (Compare Text)
    else if bytes_eq word (codes "compare") && bytes_eq form (codes "--json") then Some (Compare Json)
    else if bytes_eq word (codes "compare") && bytes_eq form (codes "--html") then Some (Compare Page)
    else None

-- what the arguments ask for
abbrev pub asked : (arguments : List (List ℕ)) → Option Command
asked (word ∷ []) = asked_alone word
asked (word ∷ path ∷ []) = asked_by word
asked (word ∷ path ∷ last ∷ []) = asked_before word last
asked (word ∷ old ∷ new ∷ form ∷ []) = asked_of_two word form
asked _ = None

-- this is asked for
abbrev pub AsksFor : (arguments : List (List ℕ)) → Command → Type 0
AsksFor arguments command = asked arguments ≡ Some command

-- nothing that there is is asked for
abbrev pub AsksNothing : (arguments : List (List ℕ)) → Type 0
AsksNothing arguments = asked arguments ≡ None

-- nothing was read from the script, and nothing was written
abbrev pub NothingDone : Course → Type 0
NothingDone course = (course.unread_after ≡ course.unread) × (course.taken_after ≡ course.taken)

-- the run over a course, with the sink's failures after it
abbrev pub run_of : Course → Config → (failures : ℕ) → ReplayRun
run_of course config failures = record {
  settings = settings_by config;
  sizes = record { batch = config.send_batch_size; queue = config.queue_capacity; keeps_doubles = config.keeps_doubles };
  lanes = config.lanes;
  shards = config.shards;
  taken = course.taken;
  failures = 0;
  taken_after = course.taken_after;
  failures_after = failures;
  unread = course.unread;
  unread_after = course.unread_after;
}

-- a configuration was read, and the run of the script by it had an answer of this outcome
pub record RanTo (course : Course) (outcome : Outcome) : Type 0 where
  pub config : Config
  pub is_read : IsConfigOf course.file config
  pub failures_after : ℕ
  pub answer : Result Report ReplayFault
  pub ends : RunEnds (run_of course config failures_after) answer
  pub outcome_is : outcome ≡ outcome_of answer

-- how an outcome arises where a replay is asked for: before the script, or by its run
abbrev pub Replays : Course → Outcome → Type 0
Replays course Usage = ⊥
Replays course CannotListen = ⊥
Replays course CannotWrite = ⊥
Replays course Unreadable = FileFails course.file Unreadable × NothingDone course
Replays course (Configuration fault) = FileFails course.file (Configuration fault) × NothingDone course
Replays course NoMemory = (FileFails course.file NoMemory × NothingDone course) ⊎ RanTo course NoMemory
Replays course outcome = RanTo course outcome

-- how an outcome arises where a comparison is asked for, by what was read from the second configuration's file: one of
-- the files gives no configuration; or both do, and the script was read to its end, and led each run to a report; or
-- something kept it from its end. Nothing is written before the last text.
abbrev pub Compares : Course → (new_file : Result (List ℕ) FileFault) → Outcome → Type 0
Compares course new_file Unreadable = (FileFails course.file Unreadable ⊎ FileFails new_file Unreadable) × NothingDone course
Compares course new_file (Configuration fault) = (FileFails course.file (Configuration fault) ⊎ FileFails new_file (Configuration fault)) × NothingDone course
Compares course new_file (Shown text) =
    ((old new : Config) × IsConfigOf course.file old × IsConfigOf new_file new
    × (old_report new_report : Report) × BothPlayed old new course.unread course.unread_after old_report new_report)
    × (course.taken_after ≡ course.taken)
Compares course new_file (Script line) = course.taken_after ≡ course.taken
Compares course new_file NoMemory = course.taken_after ≡ course.taken
Compares course new_file CounterOverflow = course.taken_after ≡ course.taken
Compares course new_file SinkDown = course.taken_after ≡ course.taken
Compares course new_file _ = ⊥

-- what both runs kept is shown; or there was no memory for it
abbrev pub IsTold : Outcome → Type 0
IsTold (Shown text) = ⊤
IsTold NoMemory = ⊤
IsTold _ = ⊥

-- something kept a comparison from the script's end
abbrev pub IsKeptBack : Outcome → Type 0
IsKeptBack (Script line) = ⊤
IsKeptBack NoMemory = ⊤
IsKeptBack CounterOverflow = ⊤
IsKeptBack SinkDown = ⊤
IsKeptBack _ = ⊥
