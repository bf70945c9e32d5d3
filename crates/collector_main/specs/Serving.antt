-- How each outcome arises where the collector is to take requests.
use Rattle.std.specs.Prelude.{◌≡◌, ◌⊎◌, ℕ, Bool, true, false, not, ◌==◌, ◌||◌, ◌&&◌, List, length, Option, Result, Ok, Err}
use Rattle.drop_ledger.specs.declared.report.Report.{Report}
use Rattle.tsc_config.specs.declared.config.Config.{Config}
use Rattle.collector_commands.specs.declared.outcome.Outcome.{Outcome}
use Rattle.collector_commands.specs.declared.outcome.Outcome.TheVariants.{Done, SinkDown, Usage, Unreadable, Configuration, Script, NoMemory, CounterOverflow, CannotListen, CannotWrite}
use Rattle.collector_commands.specs.Configuration.{FileFails, IsConfigOf}
use Rattle.pipeline.specs.declared.fault.ServeFault.{ServeFault}
use Rattle.pipeline.specs.Outcome.{SinkAnswers}
use Rattle.pipeline.specs.Promise.{CoreRunTells, CoreRunTellsTo}
use Rattle.span_sink.specs.Manners.{Manner, takes_all, may_refuse, prints_refused}
use Rattle.collector_commands.specs.Courses.{Course, NothingDone}
use Rattle.pipeline.specs.declared.fault.ServeFault.TheVariants as serve_is

-- how the program ends after a run on a listener with this answer
abbrev pub served_to : Result Report ServeFault → Outcome
served_to (Ok report) = Done report
served_to (Err serve_is.NoMemory) = NoMemory
served_to (Err serve_is.CounterOverflow) = CounterOverflow
served_to (Err (serve_is.SinkDown report)) = SinkDown

-- a configuration doesn't say where lines are sent to, so they are printed
abbrev pub prints : Config → Bool
prints config = length config.export.endpoint == 0

-- lines go to a file: a configuration names one, and lines are printed
abbrev pub writes_file : Config → Bool
writes_file config = (prints config || config.export.lines) && not (length config.output == 0)

-- a configuration was read that says nowhere to send lines to, and the run on a listener by it had an answer of this
-- outcome; what its threads did is a run of the core; nothing was read from a script
pub record ServedTo (course : Course) (outcome : Outcome) : Type 0 where
  pub config : Config
  pub is_read : IsConfigOf course.file config
  pub printed : prints config ≡ true
  pub here : writes_file config ≡ false
  pub failures_after : ℕ
  pub answer : Result Report ServeFault
  pub sink : SinkAnswers course.taken 0 course.taken_after failures_after answer
  pub ran : CoreRunTells config course.taken 0 course.taken_after failures_after answer
  pub unread : course.unread_after ≡ course.unread
  pub outcome_is : outcome ≡ served_to answer

-- By a configuration requests were taken, and the run, whose destination is of this manner and took these bytes, had an
-- answer of this outcome; what its threads did is a run of the core. Or the address couldn't be listened at, and nothing
-- was done.
abbrev pub TakesTo : Manner → Config → (taken taken_after : Option (List ℕ)) → Outcome → Type 0
TakesTo manner config taken taken_after outcome =
    ((taken_after ≡ taken) × (outcome ≡ CannotListen))
    ⊎ ((failures : ℕ) × (answer : Result Report ServeFault)
    × SinkAnswers taken 0 taken_after failures answer × CoreRunTellsTo manner config taken 0 taken_after failures answer × (outcome ≡ served_to answer))

-- the lines were sent to a backend
abbrev pub ExportsTo : Config → Outcome → Type 0
ExportsTo config outcome = (taken : Option (List ℕ)) × (taken_after : Option (List ℕ)) × TakesTo may_refuse config taken taken_after outcome

-- each line was printed before it was sent to a backend
abbrev pub KeepsTo : Config → (taken taken_after : Option (List ℕ)) → Outcome → Type 0
KeepsTo = TakesTo prints_refused

-- the lines were sent, and printed too where the configuration says so; else nothing was printed
abbrev pub SendsTo : Config → (taken taken_after : Option (List ℕ)) → Outcome → Type 0
SendsTo config taken taken_after outcome =
    ((config.export.lines ≡ false) × (taken_after ≡ taken) × ExportsTo config outcome) ⊎ ((config.export.lines ≡ true) × KeepsTo config taken taken_after outcome)

-- the lines were printed
abbrev pub PrintsTo : Config → (taken taken_after : Option (List ℕ)) → Outcome → Type 0
PrintsTo = TakesTo takes_all

-- the lines were printed where the configuration says nowhere to send them; else they were sent
abbrev pub RunsTo : Config → (taken taken_after : Option (List ℕ)) → Outcome → Type 0
RunsTo config taken taken_after outcome =
    ((prints config ≡ true) × PrintsTo config taken taken_after outcome) ⊎ ((prints config ≡ false) × SendsTo config taken taken_after outcome)

-- a configuration was read that says where to send lines to, and the run by it came to this outcome; nothing was read
-- from a script
pub record ExportedTo (course : Course) (outcome : Outcome) : Type 0 where
  pub config : Config
  pub is_read : IsConfigOf course.file config
  pub sent : prints config ≡ false
  pub here : writes_file config ≡ false
  pub sends : SendsTo config course.taken course.taken_after outcome
  pub unread : course.unread_after ≡ course.unread

-- Lines went to a file in place of standard output, which is as it was: by the configuration the run came to this
-- outcome with what the file had taken before and after.
abbrev pub FilesTo : Config → (taken taken_after : Option (List ℕ)) → Outcome → Type 0
FilesTo config taken taken_after outcome = (taken_after ≡ taken) × ((before : Option (List ℕ)) × (after : Option (List ℕ)) × RunsTo config before after outcome)

-- a configuration was read that names a file for lines that are printed, and the run by it came to this outcome; nothing
-- was read from a script
pub record FiledTo (course : Course) (outcome : Outcome) : Type 0 where
  pub config : Config
  pub is_read : IsConfigOf course.file config
  pub filed : writes_file config ≡ true
  pub files : FilesTo config course.taken course.taken_after outcome
  pub unread : course.unread_after ≡ course.unread

-- a run by a configuration came to this outcome
abbrev pub RanOn : Course → Outcome → Type 0
RanOn course outcome = ServedTo course outcome ⊎ (ExportedTo course outcome ⊎ FiledTo course outcome)

-- a configuration was read, and nothing was done by it
abbrev pub OnlyRead : Course → Type 0
OnlyRead course = (config : Config) × IsConfigOf course.file config × NothingDone course

-- how an outcome arises where the collector is to take requests: before it listens, or by its run
abbrev pub Serves : Course → Outcome → Type 0
Serves course Usage = ⊥
Serves course (Script line) = ⊥
Serves course Unreadable = FileFails course.file Unreadable × NothingDone course
Serves course (Configuration fault) = FileFails course.file (Configuration fault) × NothingDone course
Serves course NoMemory = (FileFails course.file NoMemory × NothingDone course) ⊎ RanOn course NoMemory
Serves course CannotListen = OnlyRead course
Serves course CannotWrite = OnlyRead course
Serves course outcome = RanOn course outcome
