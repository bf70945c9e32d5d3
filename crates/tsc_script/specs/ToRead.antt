-- What is read and not yet used: words of private functions.
use Rattle.std.specs.Prelude.{◌≡◌, ◌≢◌, ◌⊎◌, ℕ, ◌+◌, ◌*◌, ◌<◌, ◌≤◌, List, [], ◌∷◌, ◌++◌, length, Option, None, Some, Result, Ok, Err}
use Rattle.tsc_script.specs.declared.limits.TheConstants.{MAX_LINE_BYTES}
use Rattle.tsc_script.specs.declared.buffer.Refill.{Refill}
use Rattle.tsc_script.specs.declared.buffer.Refill.TheVariants as refill_is
use Rattle.tsc_script.specs.declared.lines.LineEnd.{LineEnd}
use Rattle.tsc_script.specs.declared.lines.LineEnd.TheVariants as line_is
use Rattle.tsc_script.specs.declared.reads.ScriptRead.{ScriptRead}
use Rattle.tsc_script.specs.declared.stop.ScriptStop.{ScriptStop}
use Rattle.tsc_script.specs.declared.stop.ScriptStop.TheVariants.{NoMemory, Refused, Fault, Down}
use Rattle.tsc_script.specs.Lines.{HasNoLineFeed}
use Rattle.tsc_script.specs.Reads.{SourceTurn, failed, ended, turn_of, bytes_given, GoOn, LastGave}

-- the bytes that were read and not yet used, and how many reads were made
pub record BufferState : Type 0 where
  pub bytes : List ℕ
  pub reads : ℕ

-- from one count of reads to another these were made, none beyond 2^32, and each gave at most 65,536 bytes
pub record CountsReads (before after : ℕ) (turns : List SourceTurn) : Type 0 where
  pub made : after ≡ before + length turns
  pub few : before ≤ 4294967296 → after ≤ 4294967296
  pub short : length (bytes_given turns) ≤ 65536 * length turns

-- the last read failed, or it was the last that may be made
abbrev pub Spends : (reads : ℕ) → List SourceTurn → Type 0
Spends reads turns = LastGave failed turns ⊎ (GoOn turns × (reads ≡ 4294967296))

-- interruptions, and then what was found; or there was no further read
abbrev pub Finds : Option ScriptRead → (chunk : List ℕ) → (reads : ℕ) → List SourceTurn → Type 0
Finds None chunk reads turns = GoOn turns × (bytes_given turns ≡ []) × (reads ≡ 4294967296)
Finds (Some turn) chunk reads turns =
    (before : List SourceTurn) × GoOn before × (bytes_given before ≡ []) × (turns ≡ before ++ turn_of turn chunk ∷ [])

-- how the reads ended by which the empty buffer was filled
abbrev pub Refills : Refill → (reads : ℕ) → List SourceTurn → Type 0
Refills refill_is.More reads turns = GoOn turns
Refills refill_is.End reads turns = LastGave ended turns
Refills refill_is.Fault reads turns = Spends reads turns

-- of the bytes that the buffer had and the reads gave, the line is the first, and what the buffer has then is left
abbrev pub ReadsLine : LineEnd → (bytes line left : List ℕ) → (reads : ℕ) → List SourceTurn → Type 0
ReadsLine line_is.LineFeed bytes line left reads turns = GoOn turns × (bytes ≡ line ++ 10 ∷ left)
ReadsLine line_is.Input bytes line left reads turns = LastGave ended turns × (bytes ≡ line) × (left ≡ [])
ReadsLine line_is.TooLong bytes line left reads turns =
    GoOn turns × (more : List ℕ) × HasNoLineFeed more × (MAX_LINE_BYTES < length line + length more) × (bytes ≡ (line ++ more) ++ left)
ReadsLine line_is.Fault bytes line left reads turns = Spends reads turns × (bytes ≡ line)

-- what was found behind a close, by the bytes that the buffer had and the reads gave
abbrev pub Closing : Result (Unit {0}) ScriptStop → (number : ℕ) → (bytes : List ℕ) → (reads : ℕ) → List SourceTurn → Type 0
Closing (Ok done) number bytes reads turns = LastGave ended turns × (bytes ≡ [])
Closing (Err NoMemory) number bytes reads turns = ⊥
Closing (Err (Refused at)) number bytes reads turns = (at ≡ number) × (bytes ≢ [])
Closing (Err (Fault at)) number bytes reads turns = (at ≡ number) × Spends reads turns × HasNoLineFeed bytes
Closing (Err Down) number bytes reads turns = ⊥
