-- What the files of an output took, one after the other.
use Rattle.std.specs.Prelude.{◌≡◌, ⊤, ℕ, ◌+◌, ◌-◌, ◌^◌, ◌==◌, min, take, Result, Ok, Err, Bool, true, List, [], ◌∷◌, ◌++◌, length, Option, Some, None}
use Rattle.std.specs.Option.{option_map}
use Rattle.std.specs.List.{concat, AllByRecursion}

-- ends a line
abbrev pub line_feed : ℕ
line_feed = 10

-- these bytes end at the end of a line, or there are none
abbrev pub is_whole : List ℕ → Bool
is_whole [] = true
is_whole (byte ∷ []) = byte == line_feed
is_whole (byte ∷ next ∷ rest) = is_whole (next ∷ rest)

-- no line is torn behind this segment
abbrev pub EndsAtLineEnd : List ℕ → Type 0
EndsAtLineEnd segment = is_whole segment ≡ true

-- whether a file is at the end of a line once it took these bytes more
abbrev pub line_end_after : (before : Bool) → List ℕ → Bool
line_end_after before [] = before
line_end_after before (byte ∷ rest) = is_whole (byte ∷ rest)

-- the segments once a file is left that took these bytes, where all is known
abbrev pub leaves : Option (List (List ℕ)) → Option (List ℕ) → Option (List (List ℕ))
leaves None bytes = None
leaves (Some segments) None = None
leaves (Some segments) (Some bytes) = Some (segments ++ bytes ∷ [])

-- the bytes of the segments of files that were left, and then those of the open file, where the segments are known
abbrev pub joined : (left : Option (List (List ℕ))) → (current : Option (List ℕ)) → Option (List ℕ)
joined None current = None
joined (Some segments) current = option_map (λ bytes. concat segments ++ bytes) current

-- where the segments are known, a file that was just opened took nothing
abbrev pub IsFresh : Option (List (List ℕ)) → Option (List ℕ) → Type 0
IsFresh None bytes = ⊤
IsFresh (Some segments) bytes = bytes ≡ Some []

-- Where the bytes are known that the files took, each file that was left took whole lines only, and so did the open one
-- where it is at the end of a line. So no line is torn over two files.
abbrev pub AreSegments : (left : Option (List (List ℕ))) → (current : Option (List ℕ)) → (at_line_end : Bool) → Type 0
AreSegments None current at_line_end = ⊤
AreSegments (Some segments) None at_line_end = ⊥
AreSegments (Some segments) (Some bytes) at_line_end = AllByRecursion EndsAtLineEnd segments × (at_line_end ≡ true → EndsAtLineEnd bytes)

-- an output: the segments of the files that were left, what the open file took, how many bytes it has, with those that
-- were there before, and whether it is at the end of a line; the size at which a new one is begun, or 0
pub record OutputState : Type 0 where
  pub left : Option (List (List ℕ))
  pub current : Option (List ℕ)
  pub size : ℕ
  pub at_line_end : Bool
  pub longest : ℕ

-- all bytes that it took, in order
abbrev pub taken_by : OutputState → Option (List ℕ)
taken_by s = joined s.left s.current

-- an open file took bytes, as a write answered
abbrev pub grown : OutputState → List ℕ → (current : Option (List ℕ)) → OutputState
grown s bytes current = record {
  left = s.left;
  current = current;
  size = min (s.size + length bytes) (2 ^ 64 - 1);
  at_line_end = line_end_after s.at_line_end bytes;
  longest = s.longest;
}

-- the open file took so many bytes of these, or none where the write failed
abbrev pub WritesOn : {E : Type 0} → (old : OutputState) → List ℕ → Result ℕ E → (new : OutputState) → Type 0
WritesOn old bytes (Ok count) new = new ≡ grown old (take count bytes) new.current
WritesOn old bytes (Err error) new = new ≡ grown old [] new.current

-- no file was left at a place, where that is known
abbrev pub IsNewPlace : Option (List (List ℕ)) → Type 0
IsNewPlace None = ⊤
IsNewPlace (Some segments) = segments ≡ []

-- an output took nothing yet, where that is known, and is at the end of a line
pub record IsNewOutput (longest : ℕ) (s : OutputState) : Type 0 where
  pub left : IsNewPlace s.left
  pub current : IsFresh s.left s.current
  pub at_line_end : s.at_line_end ≡ true
  pub same : s.longest ≡ longest
