-- When an output turns to a new file.
use Rattle.std.specs.Prelude.{◌≡◌, ◌⊎◌, ℕ, ◌+◌, ◌-◌, ◌^◌, min, nat_le, nat_lt, Bool, true, ◌&&◌, List, Result, if◌then◌else◌}
use Rattle.output_file.specs.declared.turning.FileTurn.{FileTurn}
use Rattle.output_file.specs.declared.turning.FileTurn.TheVariants.{Stays, Reopens, Shifts}
use Rattle.output_file.specs.Segments.{OutputState, leaves, WritesOn}

-- Inside a line nothing turns. At the end of one the file is opened anew where that was asked for, and the files are
-- shifted where it has so many bytes (0: never).
abbrev pub turn_of : (size longest : ℕ) → (at_line_end asked : Bool) → FileTurn
turn_of size longest at_line_end asked =
    if at_line_end then (if asked then Reopens else (if nat_lt 0 longest && nat_le longest size then Shifts else Stays)) else Stays

-- how many bytes are in a file that was opened, where so many were found, and a line feed was written behind them if the
-- last line was torn
abbrev pub opened_size : (found : ℕ) → (is_torn : Bool) → ℕ
opened_size found is_torn = if is_torn then min (found + 1) (2 ^ 64 - 1) else found

-- how often a file was asked to be opened anew, as far as that is done: where it can't be opened it is still asked for
abbrev pub seen_after : (seen asked : ℕ) → (is_opened : Bool) → ℕ
seen_after seen asked is_opened = if is_opened then asked else seen

-- the file was left, and another one is open, at the end of a line
pub record IsLeft (old new : OutputState) : Type 0 where
  pub left : new.left ≡ leaves old.left old.current
  pub at_line_end : new.at_line_end ≡ true
  pub longest : new.longest ≡ old.longest

-- A file is left only where the output turns. Where nothing can be renamed or opened, all is as it was.
abbrev pub TurnsBy : FileTurn → (old new : OutputState) → Type 0
TurnsBy Stays old new = new ≡ old
TurnsBy Reopens old new = IsLeft old new ⊎ (new ≡ old)
TurnsBy Shifts old new = IsLeft old new ⊎ (new ≡ old)

-- it turned as the rule says, whether or not it was asked to open its file anew
abbrev pub TurnsByRule : (old new : OutputState) → Type 0
TurnsByRule old new = (asked : Bool) × TurnsBy (turn_of old.size old.longest old.at_line_end asked) old new

-- a write: first it turns, where it is to, and then the open file takes bytes
abbrev pub Writes : {E : Type 0} → (old : OutputState) → List ℕ → Result ℕ E → (new : OutputState) → Type 0
Writes old bytes answer new = (between : OutputState) × TurnsByRule old between × WritesOn between bytes answer new
