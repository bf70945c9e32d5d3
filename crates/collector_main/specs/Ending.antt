-- How each outcome arises, and the end of the program.
use Rattle.std.specs.Prelude.{◌≡◌, ◌⊎◌, ℕ, List, Option, Result}
use Rattle.collector_commands.specs.declared.outcome.Outcome.{Outcome}
use Rattle.collector_commands.specs.declared.outcome.Outcome.TheVariants.{Usage, NoMemory}
use Rattle.collector_commands.specs.declared.outcome.Outcome.TheVariants as is
use Rattle.collector_commands.specs.declared.asking.Command.{Command}
use Rattle.collector_commands.specs.declared.asking.Command.TheVariants.{Replay, Compare, Serve, Validate, Close, Show, Ledger, Help, Version}
use Rattle.collector_commands.specs.Validating.{FileTells}
use Rattle.collector_main.specs.Closing.{FileCloses}
use Rattle.collector_commands.specs.Showing.{InputShows}
use Rattle.collector_commands.specs.Ledgers.{LedgerTells}
use Rattle.ledger_text.specs.declared.look.LedgerLook.{LedgerLook}
use Rattle.ledger_text.specs.declared.fault.FolderFault.{FolderFault}
use Rattle.collector_commands.specs.declared.configuration.FileFault.{FileFault}
use Rattle.tsc_script.specs.Reads.{KnownReader}
use Rattle.collector_commands.specs.Texts.{Finishes}
use Rattle.collector_commands.specs.Courses.{Course, AsksFor, AsksNothing, NothingDone, Replays, Compares}
use Rattle.collector_main.specs.Serving.{Serves}

-- how an outcome arises by what is asked for; `input` is what standard input has, where that is known. What a folder holds
-- no clause says: what is told of a ledger is told of what was found there, which is looked at after the arguments.
abbrev pub Does : Course → (input : Option (List ℕ)) → Command → Outcome → Type 0
Does course input Replay outcome = Replays course outcome
Does course input (Compare form) outcome = (new_file : Result (List ℕ) FileFault) × Compares course new_file outcome
Does course input Serve outcome = Serves course outcome
Does course input Validate outcome = FileTells course.file outcome × NothingDone course
Does course input Close outcome = FileCloses course.file outcome × NothingDone course
Does course input Show outcome = InputShows input outcome × NothingDone course
Does course input (Ledger form) outcome = ((path : List ℕ) × (found : Result LedgerLook FolderFault) × LedgerTells path form found outcome) × NothingDone course
Does course input Help outcome = (outcome ≡ is.Help) × NothingDone course
Does course input Version outcome = (outcome ≡ is.Version) × NothingDone course

-- how an outcome arises: the arguments are wrong exactly where they ask for nothing that there is, and then nothing is
-- done
abbrev pub CameTo : Course → (input : Option (List ℕ)) → Outcome → Type 0
CameTo course input Usage = AsksNothing course.arguments × NothingDone course
CameTo course input outcome = (command : Command) × AsksFor course.arguments command × Does course input command outcome

-- ---- the end of the program

-- the program did what the arguments say by what it read from the file, and then wrote the text of the outcome
pub record EndsWith (arguments : List (List ℕ)) (input : Option (List ℕ)) (unread unread_after : KnownReader) (taken taken_last : Option (List ℕ)) (status : ℕ) : Type 0 where
  pub outcome : Outcome
  pub file : Result (List ℕ) FileFault
  pub between : Option (List ℕ)
  pub came_to : CameTo (record { arguments = arguments; file = file; unread = unread; unread_after = unread_after; taken = taken; taken_after = between }) input outcome
  pub finishes : Finishes between outcome taken_last status

-- there was no memory for the last text; nothing was read, and at most the text that says so was written
abbrev pub HasNoRoom : (unread unread_after : KnownReader) (taken taken_last : Option (List ℕ)) → (status : ℕ) → Type 0
HasNoRoom unread unread_after taken taken_last status = (unread_after ≡ unread) × Finishes taken NoMemory taken_last status

-- the end of the program
abbrev pub Ends : (arguments : List (List ℕ)) → (input : Option (List ℕ)) → (unread unread_after : KnownReader) (taken taken_last : Option (List ℕ)) → (status : ℕ) → Type 0
Ends arguments input unread unread_after taken taken_last status =
    EndsWith arguments input unread unread_after taken taken_last status ⊎ HasNoRoom unread unread_after taken taken_last status
