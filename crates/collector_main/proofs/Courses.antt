-- How the outcome of what is asked for arises.
-- For what `run` ensures.
use Rattle.collector_commands.specs.declared.asking.Command.{Command}
use Rattle.collector_commands.specs.declared.asking.Command.TheVariants.{Replay, Compare, Serve, Validate, Close, Show, Ledger, Help, Version}
use Rattle.collector_commands.specs.declared.asking.LedgerForm.{LedgerForm}
use Rattle.collector_commands.specs.declared.asking.LedgerForm.TheVariants.{Numbers, Script}
use Rattle.collector_commands.specs.declared.outcome.Outcome.{Outcome}
use Rattle.collector_commands.specs.declared.outcome.Outcome.TheVariants as is
use Rattle.std.specs.Prelude.{◌≡◌, ℕ, List, Option, Result, Ok, Err}
use Rattle.collector_commands.specs.declared.configuration.FileFault.{FileFault}
use Rattle.collector_commands.specs.declared.configuration.FileFault.TheVariants as file_is
use Rattle.collector_commands.specs.Validating.{FileTells}
use Rattle.collector_main.specs.Closing.{FileCloses}
use Rattle.request_show.specs.declared.body.BodyFault.{BodyFault}
use Rattle.request_show.specs.declared.body.BodyFault.TheVariants as body_is
use Rattle.collector_commands.specs.Showing.{BodyShows}
use Rattle.collector_commands.specs.Ledgers.{LedgerTells}
use Rattle.ledger_text.specs.declared.look.LedgerLook.{LedgerLook}
use Rattle.ledger_text.specs.declared.fault.FolderFault.{FolderFault}
use Rattle.collector_commands.specs.Courses.{Course, AsksFor}
use Rattle.collector_main.specs.Ending.{CameTo, Does}

untold : (file : Result (List ℕ) FileFault) → FileTells file is.Usage → ⊥
untold (Ok bytes) tells = tells
untold (Err file_is.NoMemory) tells = cc
untold (Err (file_is.Unreadable why)) tells = tells

uncalled : (file : Result (List ℕ) FileFault) → FileCloses file is.Usage → ⊥
uncalled (Ok bytes) closes = closes
uncalled (Err file_is.NoMemory) closes = cc
uncalled (Err (file_is.Unreadable why)) closes = cc

unshown : (body : Result (List ℕ) BodyFault) → BodyShows body is.Usage → ⊥
unshown (Ok body) shows = shows
unshown (Err body_is.NoMemory) shows = shows
unshown (Err body_is.Unreadable) shows = shows
unshown (Err body_is.TooLong) shows = shows

unlooked : (path : List ℕ) (form : LedgerForm) (found : Result LedgerLook FolderFault) → LedgerTells path form found is.Usage → ⊥
unlooked path Numbers (Ok look) tells = tells
unlooked path Script (Ok look) tells = tells
unlooked path form (Err fault) tells = tells

-- nothing that is asked for ends as wrong arguments do
no-usage : (course : Course) (input : Option (List ℕ)) (command : Command) → Does course input command is.Usage → ⊥
no-usage course input Replay does = does
no-usage course input (Compare form) does = does.1
no-usage course input Serve does = does
no-usage course input Validate does = untold course.file does.0
no-usage course input Close does = uncalled course.file does.0
no-usage course input Show does = unshown does.0.0 does.0.2
no-usage course input (Ledger form) does = unlooked does.0.0 form does.0.1 does.0.2
no-usage course input Help does = let wrong : is.Usage ≡ is.Help = does.0 in cc
no-usage course input Version does = let wrong : is.Usage ≡ is.Version = does.0 in cc

-- what was asked for was done
pub CameTo-does : (course : Course) (input : Option (List ℕ)) (command : Command) (outcome : Outcome) → AsksFor course.arguments command → Does course input command outcome → CameTo course input outcome
CameTo-does course input command (is.Done report) asked does = (command, asked, does)
CameTo-does course input command is.SinkDown asked does = (command, asked, does)
CameTo-does course input command is.Usage asked does = absurd (no-usage course input command does)
CameTo-does course input command is.Unreadable asked does = (command, asked, does)
CameTo-does course input command (is.Configuration fault) asked does = (command, asked, does)
CameTo-does course input command (is.Script line) asked does = (command, asked, does)
CameTo-does course input command is.NoMemory asked does = (command, asked, does)
CameTo-does course input command is.CounterOverflow asked does = (command, asked, does)
CameTo-does course input command is.CannotListen asked does = (command, asked, does)
CameTo-does course input command is.CannotWrite asked does = (command, asked, does)
CameTo-does course input command is.Valid asked does = (command, asked, does)
CameTo-does course input command (is.Faulty lines) asked does = (command, asked, does)
CameTo-does course input command is.Closed asked does = (command, asked, does)
CameTo-does course input command is.CannotClose asked does = (command, asked, does)
CameTo-does course input command (is.Shown line) asked does = (command, asked, does)
CameTo-does course input command (is.NotShown said) asked does = (command, asked, does)
CameTo-does course input command is.Help asked does = (command, asked, does)
CameTo-does course input command is.Version asked does = (command, asked, does)
