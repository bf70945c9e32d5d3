-- What is read at a place of a file.
use Rattle.std.specs.Prelude.{◌≡◌, ◌≢◌, ◌⊎◌, ◌<◌, ◌+◌, ℕ, Bool, true, List, [], ◌∷◌, ◌++◌, length, take, drop, slice_index}
use Rattle.sqlite_disk.specs.Disk.{Holds, Torn}
use Rattle.ledger_file.specs.Format.{claimed, payload, is_whole, header}

-- whether a whole record begins at a place, and if so its bytes
pub record IsReadAt (seed : ℕ) (file : List ℕ) (at : ℕ) (whole : Bool) (bytes : List ℕ) : Type 0 where
  pub tested : is_whole seed (drop at file) ≡ whole
  pub held : whole ≡ true → bytes ≡ payload (drop at file)

-- a gate stands there and isn't open
abbrev pub IsShutAt : List ℕ → ℕ → Type 0
IsShutAt file at = (at < length file) × (slice_index file at ≢ 1)

-- the file begins with the header of these parameters
abbrev pub BeginsWith : List ℕ → List ℕ → Type 0
BeginsWith file parameters = take (length (header parameters)) file ≡ header parameters

-- A gate was shut at a place: a file that may be left has the place written over, done or torn, if no shut gate stood there.
pub record MayBeShut (may_leave : List ℕ → Type 0) (file : List ℕ) (at : ℕ) (c : List ℕ) : Type 0 where
  pub stood_open : IsShutAt file at → ⊥
  pub before : List ℕ
  pub left : may_leave before
  pub torn : Torn at 1 before c

-- it was shut before, or it is now
abbrev pub IsShutNow : (List ℕ → Type 0) → List ℕ → ℕ → List ℕ → Type 0
IsShutNow may_leave file at c = (IsShutAt file at × may_leave c) ⊎ (Torn at 1 file c × Holds c at (0 ∷ []))

-- Each whole record that begins somewhere in these bytes was written there, byte for byte: no torn bytes pass a checksum.
abbrev pub IsUnforged : ℕ → List ℕ → List ℕ → Type 0
IsUnforged seed left written = (at : ℕ) → is_whole seed (drop at left) ≡ true → take (9 + claimed (drop at left)) (drop at written) ≡ take (9 + claimed (drop at left)) (drop at left)

abbrev pub IsPrefixOf : List (List ℕ) → List (List ℕ) → Type 0
IsPrefixOf front items = (rest : List (List ℕ)) × (items ≡ front ++ rest)

-- each file that a crash may leave has the first n bytes of this one
abbrev pub AgreesUpTo : ℕ → List ℕ → (List ℕ → Type 0) → Type 0
AgreesUpTo n file may_leave = (c : List ℕ) → may_leave c → take n c ≡ take n file

-- a visitor was given some records, and has become so by them; where the disk told no lie, they are those
abbrev pub WasGiven : {V : Type 0} → (has_visited : V → List (List ℕ) → V → Type 0) → (is_clean : Type 0) → (old : V) → List (List ℕ) → (new : V) → Type 0
WasGiven has_visited is_clean old records new = (given : List (List ℕ)) × has_visited old given new × (is_clean → given ≡ records)
