-- What is told of what was found in a ledger's folder.
use Rattle.std.specs.Prelude.{◌≡◌, ⊤, ℕ, List, Result, Ok, Err, string_bytes}
use Rattle.ledger_text.specs.Numbers.{numbers_text}
use Rattle.ledger_text.specs.Scripts.{IsScript}
use Rattle.ledger_text.specs.Refusals.{refusal_text}
use Rattle.ledger_text.specs.declared.look.LedgerLook.{LedgerLook}
use Rattle.ledger_text.specs.declared.fault.FolderFault.{FolderFault}
use Rattle.collector_commands.specs.declared.asking.LedgerForm.{LedgerForm}
use Rattle.collector_commands.specs.declared.asking.LedgerForm.TheVariants.{Numbers, Script}
use Rattle.collector_commands.specs.declared.outcome.Outcome.{Outcome}
use Rattle.collector_commands.specs.declared.outcome.Outcome.TheVariants as is

-- the numbers of what was found are shown; or the lines of the requests that are pending, in order, but for those that
-- have none; or there was no memory
abbrev pub LookTells : LedgerForm → LedgerLook → Outcome → Type 0
LookTells Numbers look (is.Shown text) = text.items ≡ numbers_text look.numbers
LookTells Script look (is.Shown lines) = (left_out : ℕ) × IsScript look.requests.items lines.items left_out
LookTells form look is.NoMemory = ⊤
LookTells form look _ = ⊥

-- nothing is shown, and it is said why; or there was no memory
abbrev pub FaultTells : (path : List ℕ) → FolderFault → Outcome → Type 0
FaultTells path fault (is.NotShown said) = string_bytes said ≡ refusal_text path fault
FaultTells path fault is.NoMemory = ⊤
FaultTells path fault _ = ⊥

-- what is told of what was found in the folder at this path
abbrev pub LedgerTells : (path : List ℕ) → LedgerForm → Result LedgerLook FolderFault → Outcome → Type 0
LedgerTells path form (Ok look) outcome = LookTells form look outcome
LedgerTells path form (Err fault) outcome = FaultTells path fault outcome
