-- What comes of asking a running collector to close: no clause says what a socket does.
use Rattle.std.specs.Prelude.{List, ℕ, Result}
use Rattle.tsc_config.specs.declared.config.Config.{Config}
use Rattle.collector_commands.specs.Configuration.{IsConfigOf, FileFails}
use Rattle.collector_commands.specs.declared.configuration.FileFault.{FileFault}
use Rattle.collector_commands.specs.declared.outcome.Outcome.{Outcome}
use Rattle.collector_commands.specs.declared.outcome.Outcome.TheVariants.{Closed, CannotClose}

-- a configuration was read
abbrev pub IsRead : Result (List ℕ) FileFault → Type 0
IsRead file = (config : Config) × IsConfigOf file config

-- it was asked where a configuration was read, and else that is what came of it
abbrev pub FileCloses : Result (List ℕ) FileFault → Outcome → Type 0
FileCloses file Closed = IsRead file
FileCloses file CannotClose = IsRead file
FileCloses file outcome = FileFails file outcome
