-- What the reads of a script gave, and how they ended.
use Rattle.std.specs.Prelude.{◌≡◌, ◌⊎◌, ℕ, ◌<◌, ◌≤◌, List, [], ◌∷◌, ◌++◌, length, take, flat_map, Option, None, Some}
use Rattle.std.specs.Io.KnownBytes.{Consumes}
use Rattle.tsc_script.specs.declared.reads.ScriptRead.{ScriptRead}
use Rattle.tsc_script.specs.declared.reads.ScriptRead.TheVariants.{Gave, Interrupted, Failed, Ended}

-- what one read gave: some bytes, an interruption, a fault, or the end
pub data SourceTurn : Type 0 where
  gave : List ℕ → SourceTurn
  interrupted failed ended : SourceTurn

-- what a read of a source gave
abbrev pub turn_of : ScriptRead → List ℕ → SourceTurn
turn_of (Gave n) chunk = gave (take n chunk)
turn_of Interrupted chunk = interrupted
turn_of Failed chunk = failed
turn_of Ended chunk = ended

-- one byte or more was given, and no more than there is room for
abbrev pub FitsChunk : ScriptRead → ℕ → Type 0
FitsChunk (Gave n) room = (0 < n) × (n ≤ room)
FitsChunk _ room = Unit {0}

-- the bytes that the reads gave
abbrev pub bytes_by : SourceTurn → List ℕ
bytes_by (gave bytes) = bytes
bytes_by _ = []

abbrev pub bytes_given : List SourceTurn → List ℕ
bytes_given turns = flat_map (λ (turn : SourceTurn). bytes_by turn) turns

-- what is known of a reader: what its reads gave so far, and the bytes that it has left
pub record KnownReader : Type 0 where
  pub turns : Option (List SourceTurn)
  pub left : Option (List ℕ)

abbrev pub known_reader : Option (List SourceTurn) → Option (List ℕ) → KnownReader
known_reader turns left = record { turns = turns; left = left }

-- where it is known what its reads gave, these turns are more
abbrev pub Tells : Option (List SourceTurn) → Option (List SourceTurn) → List SourceTurn → Type 0
Tells None new turns = Unit {0}
Tells (Some old) new turns = new ≡ Some (old ++ turns)

-- a reader gave these turns: their bytes were the next that it had
pub record Gives (old new : KnownReader) (turns : List SourceTurn) : Type 0 where
  pub told : Tells old.turns new.turns turns
  pub bytes : Consumes old.left new.left (bytes_given turns)

-- each read gave bytes or was interrupted
abbrev pub GoOn : List SourceTurn → Type 0
GoOn [] = Unit {0}
GoOn (gave bytes ∷ turns) = GoOn turns
GoOn (interrupted ∷ turns) = GoOn turns
GoOn (_ ∷ turns) = ⊥

-- the last read gave this, and each before it gave bytes or was interrupted
abbrev pub LastGave : SourceTurn → List SourceTurn → Type 0
LastGave last turns = (before : List SourceTurn) × GoOn before × (turns ≡ before ++ last ∷ [])

-- the last read failed, or so many reads as may be made, 2^32, were made, and none failed or found the end
abbrev pub IsCutShort : List SourceTurn → Type 0
IsCutShort turns = LastGave failed turns ⊎ (GoOn turns × (length turns ≡ 4294967296))
