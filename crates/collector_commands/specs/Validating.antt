-- What is told of a configuration that is validated.
use Rattle.std.specs.Prelude.{◌≡◌, ◌≢◌, ◌⊎◌, ◌++◌, ℕ, List, [], map, Result, Ok, Err, IsOk, IsErr, codes, decimal, string_bytes, ⊤, length, nat_lt, if◌then◌else◌}
use Rattle.std.specs.List.{concat}
use Rattle.policy_tree.specs.Faults.{policy_fault_number}
use Rattle.config_faults.specs.Faults.{config_fault_number}
use Rattle.config_findings.specs.AddressFindings.{said_of, text_addresses}
use Rattle.config_findings.specs.FaultLists.{Tells, faults_in}
use Rattle.tsc_config.specs.FaultSets.{MayBeTooBig}
use Rattle.tsc_config.specs.Reading.{reading}
use Rattle.config_faults.specs.declared.fault.ConfigFault.{ConfigFault}
use Rattle.config_faults.specs.declared.fault.ConfigFault.TheVariants.{Policy}
use Rattle.config_findings.specs.declared.address_findings.AddressFinding.{AddressFinding}
use Rattle.config_findings.specs.declared.findings.ConfigFinding.{ConfigFinding}
use Rattle.collector_commands.specs.Configuration.{IsText, greatest_length}
use Rattle.collector_commands.specs.declared.configuration.FileFault.{FileFault}
use Rattle.collector_commands.specs.declared.configuration.FileFault.TheVariants as file_is
use Rattle.collector_commands.specs.declared.configuration.ReadFault.{ReadFault}
use Rattle.collector_commands.specs.declared.configuration.ReadFault.TheVariants.{Missing, NotAllowed, Directory, Other}
use Rattle.collector_commands.specs.declared.outcome.Outcome.{Outcome}
use Rattle.collector_commands.specs.declared.outcome.Outcome.TheVariants.{Unreadable, NoMemory, Valid, Faulty}

-- a fault of the configuration by its number, and a fault of its policies as `7.P`
abbrev pub fault_number : ConfigFault → List ℕ
fault_number (Policy fault) = codes "7." ++ decimal (policy_fault_number fault)
fault_number fault = decimal (config_fault_number fault)

-- the line of a finding: what is said of it, and the number of the fault
abbrev pub line_of : ConfigFinding → List ℕ
line_of finding = string_bytes finding.said ++ (codes " (fault " ++ (fault_number finding.fault ++ codes ")\n"))

-- the lines of findings
abbrev pub lines_of : List ConfigFinding → List ℕ
lines_of findings = concat (map line_of findings)

-- the line of an address that can't be one
abbrev pub address_line : AddressFinding → List ℕ
address_line finding = said_of finding ++ codes "\n"

-- the lines of such addresses
abbrev pub address_lines : List AddressFinding → List ℕ
address_lines findings = concat (map address_line findings)

-- these lines are told of a text: one for each of its faults, and for expressions that are too big, of which the text
-- must have that many; and behind them one for each address that can't be one, which is no fault
pub record IsToldOf (text lines : List ℕ) : Type 0 where
  pub findings : List ConfigFinding
  pub faults : Tells text (faults_in findings)
  pub some : findings ≢ [] → IsErr (reading text) ⊎ MayBeTooBig (reading text)
  pub none : findings ≡ [] → IsOk (reading text) × (text_addresses text ≢ [])
  pub told : lines ≡ lines_of findings ++ address_lines (text_addresses text)

-- what is told of a text: that it is read as a configuration, and each of its addresses may be one; or some lines
abbrev pub TextTells : List ℕ → Outcome → Type 0
TextTells text Valid = IsOk (reading text) × (text_addresses text ≡ [])
TextTells text (Faulty lines) = IsToldOf text (string_bytes lines)
TextTells text _ = ⊥

-- the lines of a file at this path that can't be read: the one that each command has for it, and why
abbrev pub unreadable_lines : (path why : List ℕ) → List ℕ
unreadable_lines path why = codes "tsc: configuration refused: unreadable\n" ++ (path ++ (codes ": " ++ (why ++ codes "\n")))

-- it is told that a file can't be read, and why; where there is no memory for the reason, not why
abbrev pub Refuses : (why : List ℕ) → Outcome → Type 0
Refuses why Unreadable = ⊤
Refuses why (Faulty lines) = (path : List ℕ) × (string_bytes lines ≡ unreadable_lines path why)
Refuses why _ = ⊥

-- why a file can't be read
abbrev pub fault_text : ReadFault → List ℕ
fault_text Missing = codes "does not exist"
fault_text NotAllowed = codes "no permission to read it"
fault_text Directory = codes "is a directory"
fault_text Other = codes "reading it failed"

-- why bytes are no text that may be read, where they are none
abbrev pub bytes_text : List ℕ → List ℕ
bytes_text bytes = if nat_lt greatest_length (length bytes) then codes "longer than 1048576 bytes" else codes "not UTF-8"

-- what is told of bytes: that they are no text that may be read, and why; what is told of the text; or that there was no
-- memory
abbrev pub BytesTell : List ℕ → Outcome → Type 0
BytesTell bytes Unreadable = ¬ IsText bytes
BytesTell bytes Valid = IsText bytes × TextTells bytes Valid
BytesTell bytes (Faulty lines) = (IsText bytes × TextTells bytes (Faulty lines)) ⊎ (¬ IsText bytes × Refuses (bytes_text bytes) (Faulty lines))
BytesTell bytes NoMemory = ⊤
BytesTell bytes _ = ⊥

-- what is told of a file that was not read
abbrev pub FaultTells : FileFault → Outcome → Type 0
FaultTells file_is.NoMemory outcome = outcome ≡ NoMemory
FaultTells (file_is.Unreadable fault) outcome = Refuses (fault_text fault) outcome

-- what is told of a file
abbrev pub FileTells : Result (List ℕ) FileFault → Outcome → Type 0
FileTells (Ok bytes) outcome = BytesTell bytes outcome
FileTells (Err fault) outcome = FaultTells fault outcome
