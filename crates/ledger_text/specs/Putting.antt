-- What a function that appends a line leaves. For private clauses.
use Rattle.std.specs.Prelude.{◌≡◌, ◌<◌, ℕ, Bool, true, false, List, ◌++◌, length}
use Rattle.script_line.specs.Line.{receive_line}
use Rattle.line_entries.specs.RecordLines.{IsRequestLine, line_with}
use Rattle.line_entries.specs.declared.came.TakenRequest.{TakenRequest}
use Rattle.ledger_text.specs.Scripts.{HasNoLine}

-- the line of a request was appended; or it has none, and nothing has changed
abbrev pub Puts : TakenRequest → (old new : List ℕ) → Bool → Type 0
Puts request old new true = (line : List ℕ) × IsRequestLine request line × (new ≡ old ++ line)
Puts request old new false = HasNoLine request × (new ≡ old)

-- the same of a request with this JSON
abbrev pub PutsJson : TakenRequest → (json old new : List ℕ) → Bool → Type 0
PutsJson request json old new true = new ≡ old ++ line_with request json
PutsJson request json old new false = (4194368 < length (receive_line request.connection request.moment json)) × (new ≡ old)
