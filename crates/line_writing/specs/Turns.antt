-- What turns of making and writing lines did.
use Rattle.std.specs.Prelude.{◌≡◌, ℕ, ◌-◌, ◌^◌, min, Bool, true, Option, None, List, [], ◌∷◌, ◌++◌, length}
use Rattle.std.specs.Bool.{Decides}
use Rattle.std.specs.List.{flat_map}
use Rattle.std.specs.Io.KnownBytes.{Appends}
use Rattle.line_writing.specs.Filling.{TakenEntry, Fills, TakesAll, lines_put}

-- what waits, the bytes of lines that are left, and those that the output took, where they are known
pub record WriterState (S : Type 0) : Type 0 where
  pub source : S
  pub left : List ℕ
  pub output : Option (List ℕ)

-- Entries were taken and lines put behind what was left before; the output took the first part of all that, and the rest
-- is left. It goes on at once where none is left and more may wait.
pub record WritesTurn {S T : Type 0} (gives : S → Option T → S → Type 0) (is_line : T → List ℕ → Type 0) (old new : WriterState S) (goes_on : Bool) (lost : ℕ) : Type 0 where
  pub may_wait : Bool
  pub made : List ℕ
  pub fills : Fills gives is_line old.source new.source old.left made may_wait lost
  pub written : List ℕ
  pub takes : Appends old.output new.output written
  pub split : old.left ++ lines_put fills.entries ≡ written ++ new.left
  pub goes : Decides goes_on ((may_wait ≡ true) × (new.left ≡ []))

-- turns did this, one after the other, and took these entries
abbrev pub TurnsLead : {S T : Type 0} → (gives : S → Option T → S → Type 0) → (is_line : T → List ℕ → Type 0) → (old : WriterState S) → List (List (TakenEntry T)) → (new : WriterState S) → Type 0
TurnsLead gives is_line old [] new = new ≡ old
TurnsLead {S} gives is_line old (entries ∷ turns) new =
    (between : WriterState S) × ((goes_on : Bool) × (lost : ℕ) × (turn : WritesTurn gives is_line old between goes_on lost) × (turn.fills.entries ≡ entries)) × TurnsLead gives is_line between turns new

-- what the output took in turns, and then what is left, are what was left before them and then the lines of all entries
-- that were taken, in order
abbrev pub TurnsWriteAll : {S T : Type 0} → (gives : S → Option T → S → Type 0) → (is_line : T → List ℕ → Type 0) → Type 0
TurnsWriteAll {S} {T} gives is_line = (old new : WriterState S) (turns : List (List (TakenEntry T))) → TurnsLead gives is_line old turns new
    → (written : List ℕ) × Appends old.output new.output written × (old.left ++ lines_put (flat_map (λ turn. turn) turns) ≡ written ++ new.left)

-- all that waited was taken, so many entries, or 2^64-1 of still more
pub record TakesRest {S T : Type 0} (gives : S → Option T → S → Type 0) (old new : S) (lost : ℕ) : Type 0 where
  pub entries : List (TakenEntry T)
  pub between : S
  pub taken : TakesAll gives old entries between
  pub ends : gives between None new
  pub counted : lost ≡ min (length entries) (2 ^ 64 - 1)
