-- How the names of files move up: a list tells which file has each name, from the output's own on, then `.1`, `.2` and
-- so on; `None`: no file has it.
use Rattle.std.specs.Prelude.{◌≡◌, ⊤, ℕ, suc, zero, Bool, true, false, List, [], ◌∷◌, ◌++◌, take, drop, length, codes, decimal, Option, Some, None}

-- a file moves to the first name that is free behind it, and each file before that one name on; where no name is free
-- the last file is lost
abbrev pub pushed : ℕ → List (Option ℕ) → List (Option ℕ)
pushed file [] = []
pushed file (None ∷ names) = Some file ∷ names
pushed file (Some next ∷ names) = Some file ∷ pushed next names

-- the first name is free, and its file has the next one
abbrev pub shifted : List (Option ℕ) → List (Option ℕ)
shifted [] = []
shifted (None ∷ names) = None ∷ names
shifted (Some file ∷ names) = None ∷ pushed file names

-- the file that has a name
abbrev pub file_at : ℕ → List (Option ℕ) → Option ℕ
file_at k [] = None
file_at zero (file ∷ names) = file
file_at (suc k) (file ∷ names) = file_at k names

-- a file has the name
abbrev pub is_some_file : Option ℕ → Bool
is_some_file None = false
is_some_file (Some file) = true

-- the file of a name has the next one now, in place of what had it
abbrev pub moved : ℕ → List (Option ℕ) → List (Option ℕ)
moved k [] = []
moved zero (file ∷ []) = file ∷ []
moved zero (file ∷ next ∷ names) = None ∷ file ∷ names
moved (suc k) (file ∷ names) = file ∷ moved k names

-- whether a name is taken, where that is known
abbrev pub TellsTaken : Option (List (Option ℕ)) → ℕ → Bool → Type 0
TellsTaken None k taken = ⊤
TellsTaken (Some names) k taken = taken ≡ is_some_file (file_at k names)

-- a change of the names, where they are known
abbrev pub Changes : (List (Option ℕ) → List (Option ℕ)) → (old new : Option (List (Option ℕ))) → Type 0
Changes change None new = ⊤
Changes change (Some old) None = ⊥
Changes change (Some old) (Some new) = new ≡ change old

-- so many names are known of, from the output's own on
abbrev pub AreSoMany : ℕ → Option (List (Option ℕ)) → Type 0
AreSoMany n None = ⊤
AreSoMany n (Some names) = length names ≡ n

-- only behind the first so many names files were shifted: of those no file is lost, and none has another's name
abbrev pub IsShiftedBehind : (old new : Option (List (Option ℕ))) → Type 0
IsShiftedBehind old new = (k : ℕ) × Changes (λ names. take k names ++ shifted (drop k names)) old new

-- the name of a number: the path, and behind it, but for the number 0, a full stop and the number
abbrev pub name_text : (path : List ℕ) → (number : ℕ) → List ℕ
name_text path zero = path
name_text path (suc n) = path ++ codes "." ++ decimal (suc n)
