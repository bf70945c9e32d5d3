-- How far a script was read and played. `before` and `after` are the bytes that the reader had left, where they are
-- known.
use Rattle.std.specs.Prelude.{◌≡◌, ◌≢◌, ℕ, ◌+◌, ◌⊎◌, List, [], ◌∷◌, ◌++◌, length, Option, Ok, Err}
use Rattle.std.specs.Io.KnownBytes.{Consumes, IsAtEnd}
use Rattle.tsc_script.specs.declared.stop.ScriptStop.{ScriptStop}
use Rattle.tsc_script.specs.declared.stop.ScriptStop.TheVariants.{NoMemory, Refused, Fault, Down}
use Rattle.tsc_script.specs.Lines.{lines_of}
use Rattle.tsc_script.specs.Instructions.{Instruction, close}
use Rattle.tsc_script.specs.Script.{with_all_first, instructions_from, instructions_of}

-- whole lines were read that say these instructions, one each and none of them a close, and perhaps bytes behind them
pub record Begins (before after : Option (List ℕ)) (done : List Instruction) : Type 0 where
  pub used : List ℕ
  pub ahead : List ℕ
  pub consumed : Consumes before after (used ++ ahead)
  pub says_first : (more : List ℕ) → instructions_of (used ++ more) ≡ with_all_first done (instructions_from (1 + length done) (lines_of more))

-- the same, then a line that says close, and perhaps bytes behind it, of which any would be a refused line
pub record Closes (before after : Option (List ℕ)) (done : List Instruction) : Type 0 where
  pub used : List ℕ
  pub ahead : List ℕ
  pub consumed : Consumes before after (used ++ ahead)
  pub closes : instructions_of used ≡ Ok (done ++ close ∷ [])
  pub ended : (more : List ℕ) → more ≢ [] → instructions_of (used ++ more) ≡ Err (2 + length done)

-- all was read, and it says these instructions, of which the last is the close
pub record Ends (before after : Option (List ℕ)) (instructions : List Instruction) : Type 0 where
  pub script : List ℕ
  pub consumed : Consumes before after script
  pub at_end : IsAtEnd after
  pub says_all : instructions_of script ≡ Ok instructions

-- a script stopped at the line with this number: the lines before it were played, of which the last may be a close;
-- `Played done` says that these instructions were played, and no more
abbrev pub StopsAt : (List Instruction → Type 0) → Option (List ℕ) → Option (List ℕ) → ℕ → Type 0
StopsAt Played before after number =
    ((done : List Instruction) × Begins before after done × (number ≡ 1 + length done) × Played done)
    ⊎ ((done : List Instruction) × Closes before after done × (number ≡ 2 + length done) × Played (done ++ close ∷ []))

-- a machine went down, and the last that it played is a close: it was down when it had played the last of the lines
-- that were read, and from there the close alone led to the end, or it is down after the close at the script's end;
-- `Fell done` says that these led to a machine that was down, and a close played there to the end
abbrev pub GoesDown : (List Instruction → Type 0) → (List Instruction → Type 0) → Option (List ℕ) → Option (List ℕ) → Type 0
GoesDown Played Fell before after =
    (done : List Instruction) × Played (done ++ close ∷ [])
    × ((Begins before after done × Fell done) ⊎ (Closes before after done ⊎ Ends before after (done ++ close ∷ [])))

-- what was played, for each reason to stop
abbrev pub StopsAfter : (List Instruction → Type 0) → (List Instruction → Type 0) → Option (List ℕ) → Option (List ℕ) → ScriptStop → Type 0
StopsAfter Played Fell before after NoMemory = Played []
StopsAfter Played Fell before after (Refused number) = StopsAt Played before after number
StopsAfter Played Fell before after (Fault number) = StopsAt Played before after number
StopsAfter Played Fell before after Down = GoesDown Played Fell before after
