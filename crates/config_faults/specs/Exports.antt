-- The address that lines are sent to.
use Rattle.std.specs.Prelude.{ℕ, Bool, true, false, ◌&&◌, if◌then◌else◌, ◌==◌, nat_lt, List, [], ◌∷◌, length, take, drop, codes}
use Rattle.std.specs.Str.{bytes_eq}

-- there is a slash
abbrev pub has_slash : List ℕ → Bool
has_slash [] = false
has_slash (b ∷ rest) = if b == 47 then true else has_slash rest

-- something stands in front of the first slash
abbrev pub has_host : List ℕ → Bool
has_host [] = false
has_host (b ∷ rest) = if b == 47 then false else has_slash rest

-- a text of the form `http://HOST:PORT/PATH` (RFC 9110, section 4.2.1)
abbrev pub is_endpoint : List ℕ → Bool
is_endpoint text = nat_lt 7 (length text) && (bytes_eq (take 7 text) (codes "http://") && has_host (drop 7 text))
