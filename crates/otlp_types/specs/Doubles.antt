-- Doubles that are kept, and their texts (protobuf's JSON mapping, `double`; RFC 8259 section 6).
use Rattle.std.specs.Prelude.{ℕ, Bool, true, false, List, [], ◌∷◌, Option, Some, None}
use Rattle.std.specs.Float.{Float}
use Rattle.json.specs.Word.{after_number}
use Rattle.shortest_float.specs.Shortest.{shortest_text}
pub use Rattle.shortest_float.specs.Shortest.{HasText}

-- the fewest digits that read as the double, the closest such ones
abbrev pub double_text : Float → List ℕ
double_text x = shortest_text x

abbrev pub is_end : Option (List ℕ) → Bool
is_end None = false
is_end (Some []) = true
is_end (Some (c ∷ cs)) = false

-- the text is a number of RFC 8259
abbrev pub is_number : List ℕ → Bool
is_number s = is_end (after_number s)
