-- When two connections among many do the same, in whatever pieces and at whatever moments their bytes came.
use Rattle.std.specs.Prelude.{◌≡◌, ℕ, ◌⊎◌, List, [], ◌∷◌, flat_map, None}
use Rattle.http_lane.specs.Connection.{ConnectionEvent}
use Rattle.http_lane.specs.Turns.{Coming, came, nothing, Waiting, Turned}

-- each turn brought bytes, or nothing
abbrev pub BringPieces : List Turned → Type 0
BringPieces [] = Unit {0}
BringPieces (t ∷ turns) = (((bytes : List ℕ) × (t.coming ≡ came bytes)) ⊎ (t.coming ≡ nothing)) × BringPieces turns

-- the last turn brought bytes
abbrev pub LastCame : List Turned → Type 0
LastCame [] = ⊥
LastCame (t ∷ []) = (bytes : List ℕ) × (t.coming ≡ came bytes)
LastCame (t ∷ next ∷ turns) = LastCame (next ∷ turns)

-- the connection is open behind these turns, or bytes ended it: it didn't end because time was over or the mark set
abbrev pub EndsByBytes : List Turned → Waiting → Type 0
EndsByBytes turns last = (last.end ≡ None) ⊎ LastCame turns

abbrev pub piece_of : Coming → List ℕ
piece_of (came bytes) = bytes
piece_of _ = []

abbrev pub bytes_that_came : List Turned → List ℕ
bytes_that_came turns = flat_map (λ (t : Turned). piece_of t.coming) turns

abbrev pub events_then : List Turned → List ConnectionEvent
events_then turns = flat_map (λ (t : Turned). t.events) turns
