-- The page of a comparison.
use Rattle.std.specs.Prelude.{ℕ, List, [], ◌∷◌, ◌++◌, ◌==◌, codes, flat_map, if◌then◌else◌}

-- a byte of JSON as it stands in a script's element of HTML, which the two bytes `</` would end: `<` is escaped (RFC 8259, section 7)
abbrev pub script_byte : ℕ → List ℕ
script_byte byte = if byte == 60 then codes "\\u003c" else byte ∷ []

-- a text of JSON so
abbrev pub in_script : List ℕ → List ℕ
in_script text = flat_map script_byte text

-- the page: what stands before the numbers, the numbers as JSON, and what stands behind them
abbrev pub page_of : (before json behind : List ℕ) → List ℕ
page_of before json behind = before ++ (in_script json ++ behind)
