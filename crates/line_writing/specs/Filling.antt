-- What was taken from where entries wait, and which lines were put of it.
use Rattle.std.specs.Prelude.{◌≡◌, ℕ, ◌<◌, Bool, true, false, Option, Some, None, IfSome, List, [], ◌∷◌, ◌++◌, length}
use Rattle.std.specs.Option.{is_none}
use Rattle.std.specs.List.{AllByRecursion, count_by, flat_map}

-- an entry that was taken, and its line where that was put; where none was, it is lost
pub record TakenEntry (T : Type 0) : Type 0 where
  pub entry : T
  pub line : Option (List ℕ)

-- what was put of it
abbrev pub text_put : Option (List ℕ) → List ℕ
text_put None = []
text_put (Some line) = line

-- the lines that were put, in order
abbrev pub lines_put : {T : Type 0} → List (TakenEntry T) → List ℕ
lines_put entries = flat_map (λ e. text_put e.line) entries

-- how many entries are lost
abbrev pub lost_in : {T : Type 0} → List (TakenEntry T) → ℕ
lost_in entries = count_by (λ e. is_none e.line) entries

-- a line that was put is its entry's, where `is_line` says which lines an entry has
abbrev pub HasOwnLine : {T : Type 0} → (is_line : T → List ℕ → Type 0) → TakenEntry T → Type 0
HasOwnLine is_line e = IfSome e.line (is_line e.entry)

-- these entries were taken, one after the other, where `gives` is what one call does
abbrev pub TakesAll : {S T : Type 0} → (gives : S → Option T → S → Type 0) → (old : S) → List (TakenEntry T) → (new : S) → Type 0
TakesAll gives old [] new = new ≡ old
TakesAll {S} gives old (e ∷ entries) new = (between : S) × gives old (Some e.entry) between × TakesAll gives between entries new

-- enough bytes wait to be written before further lines are made
abbrev pub enough : ℕ
enough = 262144

-- none was taken where enough bytes were left, behind what was left before
abbrev pub TakesWhileWanted : {T : Type 0} → (left : List ℕ) → List (TakenEntry T) → Type 0
TakesWhileWanted left [] = Unit {0}
TakesWhileWanted left (e ∷ entries) = (length left < enough) × TakesWhileWanted (left ++ text_put e.line) entries

-- How the taking ended: some entries may wait still; or the last call gave none.
abbrev pub Ends : {S T : Type 0} → (gives : S → Option T → S → Type 0) → (may_wait : Bool) → (between new : S) → Type 0
Ends gives true between new = new ≡ between
Ends gives false between new = gives between None new

-- Entries were taken, and a line of each stands behind what was left, in the order in which they were taken, but for
-- those that are counted as lost.
pub record Fills {S T : Type 0} (gives : S → Option T → S → Type 0) (is_line : T → List ℕ → Type 0) (old new : S) (before after : List ℕ) (may_wait : Bool) (lost : ℕ) : Type 0 where
  pub entries : List (TakenEntry T)
  pub between : S
  pub taken : TakesAll gives old entries between
  pub ends : Ends gives may_wait between new
  pub own : AllByRecursion (HasOwnLine is_line) entries
  pub wanted : TakesWhileWanted before entries
  pub put : after ≡ before ++ lines_put entries
  pub counted : lost ≡ lost_in entries
