-- What is said of some faults.
use Rattle.std.specs.Prelude.{ℕ, ◌+◌, ◌||◌, ◌==◌, List, [], ◌∷◌, ◌++◌, codes, decimal, if◌then◌else◌, nat_lt, nat_le}
use Rattle.config_faults.specs.declared.keys.TableKind.{TableKind}
use Rattle.near_keys.specs.Hints.{hint}

-- a table of this kind has no such key, which stands here, and what is known of it
abbrev pub no_key_text : (here : List ℕ) → TableKind → (key : List ℕ) → List ℕ
no_key_text here kind key = here ++ (codes ": no such key" ++ hint kind key)

-- the line and the column behind some bytes, from these on; a column counts characters, of which each has one byte that
-- isn't one of those from 128 to 191 (RFC 3629, section 3)
abbrev pub place_from : (line column : ℕ) → List ℕ → ℕ × ℕ
place_from line column [] = (line, column)
place_from line column (b ∷ rest) =
    if b == 10 then place_from (line + 1) 1 rest
    else if nat_lt b 128 || nat_le 192 b then place_from line (column + 1) rest
    else place_from line column rest

-- a text isn't TOML: where, behind some bytes of it
abbrev pub no_toml_text : (before : List ℕ) → List ℕ
no_toml_text before =
    codes "not TOML; line " ++ (decimal (place_from 1 1 before).0 ++ (codes ", column " ++ decimal (place_from 1 1 before).1))
