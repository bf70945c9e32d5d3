-- What a function answers, beside what a definition reads. For private clauses.
use Rattle.std.specs.Prelude.{◌≡◌, ◌⊎◌, List, [], ◌∷◌, ◌++◌, Bool, Result, Ok, Err, ℕ}
use Rattle.journal_entry.specs.declared.error.EntryError.{EntryError}
use Rattle.journal_entry.specs.declared.error.EntryError.TheVariants as faults
use Rattle.otlp_types.specs.declared.arrival.Item.{Item}
use Rattle.journal_entry.specs.Reading.{Front, Framed, IsFramed, IsUnread}

-- what a function answers, seen through f, is what the definition reads
abbrev pub SeenAs : {X Y : Type 0} → (X → Y) → Result X EntryError → Result Y EntryError → Type 0
SeenAs f (Ok x) read = read ≡ Ok (f x)
SeenAs f (Err e) read = read ≡ Err e

-- the same, or memory was refused
abbrev pub SeenOrRefused : {X Y : Type 0} → (X → Y) → Result X EntryError → Result Y EntryError → Type 0
SeenOrRefused f (Ok x) read = read ≡ Ok (f x)
SeenOrRefused f (Err e) read = (e ≡ faults.NoMemory) ⊎ (read ≡ Err e)

-- the decisions read so far, and the answers read so far to the next one, in front of those that are left
abbrev pub behind : (decisions : List (List Bool)) → (answers : List Bool) → Front (List (List Bool)) → Front (List (List Bool))
behind decisions answers (Err e) = Err e
behind decisions [] (Ok (later, left)) = Ok (decisions ++ later, left)
behind decisions (granted ∷ answers) (Ok ([], left)) = Err faults.Answer
behind decisions (granted ∷ answers) (Ok (next ∷ later, left)) = Ok (decisions ++ ((granted ∷ answers) ++ next) ∷ later, left)

-- the item is the one that was read
abbrev pub IsItem : Result Framed EntryError → Item → Type 0
IsItem (Ok framed) item = IsFramed framed item
IsItem (Err e) item = ⊥

-- no item was read, for this reason
abbrev pub IsNoItem : Result Framed EntryError → EntryError → Type 0
IsNoItem (Ok framed) error = IsUnread framed × (error ≡ faults.Unreadable)
IsNoItem (Err e) error = error ≡ e
