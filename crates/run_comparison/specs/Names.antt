-- Places of names.
use Rattle.std.specs.Prelude.{ℕ, List, Option, bytes_eq}
use Rattle.std.specs.List.{position_from}

-- the first place of a name
abbrev pub place_of : (names : List (List ℕ)) → (name : List ℕ) → Option ℕ
place_of names name = position_from (λ (other : List ℕ). bytes_eq other name) 0 names
