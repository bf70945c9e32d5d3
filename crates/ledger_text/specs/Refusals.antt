-- Why a ledger's folder isn't told.
use Rattle.std.specs.Prelude.{ℕ, List, ◌++◌, codes}
use Rattle.ledger_text.specs.declared.fault.FolderFault.{FolderFault}
use Rattle.ledger_text.specs.declared.fault.FolderFault.TheVariants.{NoMemory, Missing, NotAllowed, NotADirectory, Other}

abbrev pub fault_text : FolderFault → List ℕ
fault_text NoMemory = codes "no memory"
fault_text Missing = codes "does not exist"
fault_text NotAllowed = codes "no permission to read it"
fault_text NotADirectory = codes "is not a directory"
fault_text Other = codes "reading it failed"

-- the line that says why the folder at a path isn't told
abbrev pub refusal_text : (path : List ℕ) → FolderFault → List ℕ
refusal_text path fault = codes "tsc: ledger refused: " ++ (path ++ (codes ": " ++ (fault_text fault ++ codes "\n")))
