-- Why a script ended, by what its reads gave.
use Rattle.std.specs.Prelude.{◌≡◌, ℕ, ◌+◌, ◌≤◌, ◌==◌, if◌then◌else◌, List, [], ◌∷◌, ◌++◌, Result, Ok, Err}
use Rattle.tsc_script.specs.declared.stop.ScriptStop.{ScriptStop}
use Rattle.tsc_script.specs.declared.stop.ScriptStop.TheVariants.{NoMemory, Refused, Fault, Down}
use Rattle.tsc_script.specs.Reads.{SourceTurn, ended, bytes_given, LastGave, IsCutShort}
use Rattle.tsc_script.specs.Script.{instructions_of}

-- how many line feeds there are
abbrev pub line_feeds : List ℕ → ℕ
line_feeds [] = 0
line_feeds (byte ∷ bytes) = (if byte == 10 then 1 else 0) + line_feeds bytes

-- the line with this number is the first that is refused, whatever follows what was read; where the end was read,
-- nothing follows
abbrev pub IsRefusedAt : (number : ℕ) → List SourceTurn → Type 0
IsRefusedAt number turns = (more : List ℕ) → (LastGave ended turns → more ≡ []) → instructions_of (bytes_given turns ++ more) ≡ Err number

-- the reads were cut short within the line with this number: each line before it was read whole, and none of them is
-- refused, whatever follows
pub record IsCutAt (number : ℕ) (turns : List SourceTurn) : Type 0 where
  pub within : number ≡ 1 + line_feeds (bytes_given turns)
  pub none_refused : (more : List ℕ) (refused : ℕ) → instructions_of (bytes_given turns ++ more) ≡ Err refused → number ≤ refused
  pub cut_short : IsCutShort turns

-- why each answer comes: the end was read, there was no memory and nothing was read, a line is refused, or the reads
-- were cut short
abbrev pub IsCausedBy : Result (Unit {0}) ScriptStop → List SourceTurn → Type 0
IsCausedBy (Ok done) turns = LastGave ended turns
IsCausedBy (Err NoMemory) turns = turns ≡ []
IsCausedBy (Err (Refused number)) turns = IsRefusedAt number turns
IsCausedBy (Err (Fault number)) turns = IsCutAt number turns
IsCausedBy (Err Down) turns = Unit {0}
