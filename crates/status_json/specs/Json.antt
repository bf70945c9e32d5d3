-- Values of JSON with no blanks (RFC 8259, sections 4 and 5), of the texts of their parts.
use Rattle.std.specs.Prelude.{ℕ, List, [], ◌∷◌, ◌++◌, codes}
use Rattle.std.specs.List.{flat_map}

-- each behind a comma
abbrev pub behind_commas : List (List ℕ) → List ℕ
behind_commas texts = flat_map (λ (text : List ℕ). codes "," ++ text) texts

-- a comma between each two
abbrev pub joined : List (List ℕ) → List ℕ
joined [] = []
joined (text ∷ texts) = text ++ behind_commas texts

-- a string of a word that has nothing to escape
abbrev pub quoted : (word : List ℕ) → List ℕ
quoted word = codes "\"" ++ (word ++ codes "\"")

-- a member of an object: its name, which has nothing to escape, and its value
abbrev pub member : (name value : List ℕ) → List ℕ
member name value = quoted name ++ (codes ":" ++ value)

-- an object of these members
abbrev pub object : (members : List (List ℕ)) → List ℕ
object members = codes "{" ++ (joined members ++ codes "}")

-- an array of these values
abbrev pub array : (values : List (List ℕ)) → List ℕ
array values = codes "[" ++ (joined values ++ codes "]")
