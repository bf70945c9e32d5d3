-- What is read from the configuration's file, and what that is read as.
use Rattle.std.specs.Prelude.{◌≡◌, ◌≢◌, ◌≤◌, ◌+◌, ℕ, List, take, length, Option, Result, Ok, Err, IsUtf8, IfSome}
use Rattle.std.specs.Option.{option_map}
use Rattle.tsc_config.specs.FaultSets.{MayBeTooBig}
use Rattle.tsc_config.specs.Reading.{reading}
use Rattle.tsc_config.specs.declared.config.Config.{Config}
use Rattle.config_faults.specs.declared.fault.ConfigFault.TheVariants.{NoMemory as ReadsNothing, ExpressionTooBig}
use Rattle.collector_commands.specs.declared.configuration.FileFault.{FileFault}
use Rattle.collector_commands.specs.declared.configuration.FileFault.TheVariants as file_is
use Rattle.collector_commands.specs.declared.outcome.Outcome.{Outcome}
use Rattle.collector_commands.specs.declared.outcome.Outcome.TheVariants.{Unreadable, Configuration, NoMemory}

-- the greatest length of a configuration, in bytes
abbrev pub greatest_length : ℕ
greatest_length = 1048576

-- these bytes are what a reader has, or one byte more of it than may be read; where the reader doesn't tell what it
-- has, nothing is claimed
abbrev pub IsStart : Option (List ℕ) → List ℕ → Type 0
IsStart remaining bytes = IfSome (option_map (take (greatest_length + 1)) remaining) (λ start. bytes ≡ start)

-- what was read from a file, or why nothing was
abbrev pub file_of : {V : Type 0} → (V → List ℕ) → Result V FileFault → Result (List ℕ) FileFault
file_of items (Ok bytes) = Ok (items bytes)
file_of items (Err fault) = Err fault

-- bytes that may be read as a configuration: UTF-8, and not too many
abbrev pub IsText : List ℕ → Type 0
IsText bytes = (length bytes ≤ greatest_length) × IsUtf8 bytes

-- these bytes are read as this configuration
abbrev pub IsConfigIn : List ℕ → Config → Type 0
IsConfigIn bytes config = IsText bytes × (reading bytes ≡ Ok config)

-- why bytes give no configuration: they are no such text, or this is the least fault of it; or there was no memory to
-- read it, or an expression takes too much
abbrev pub BytesFail : List ℕ → Outcome → Type 0
BytesFail bytes Unreadable = ¬ IsText bytes
BytesFail bytes (Configuration fault) =
    IsText bytes × (fault ≢ ReadsNothing → fault ≢ ExpressionTooBig → reading bytes ≡ Err fault) × (fault ≡ ExpressionTooBig → MayBeTooBig (reading bytes))
BytesFail bytes _ = ⊥

-- the outcome of a file that was not read
abbrev pub outcome_of_fault : FileFault → Outcome
outcome_of_fault file_is.NoMemory = NoMemory
outcome_of_fault (file_is.Unreadable why) = Unreadable

-- a file was read as this configuration
abbrev pub IsConfigOf : Result (List ℕ) FileFault → Config → Type 0
IsConfigOf (Ok bytes) config = IsConfigIn bytes config
IsConfigOf (Err fault) config = ⊥

-- why a file gives no configuration
abbrev pub FileFails : Result (List ℕ) FileFault → Outcome → Type 0
FileFails (Ok bytes) outcome = BytesFail bytes outcome
FileFails (Err fault) outcome = outcome ≡ outcome_of_fault fault
