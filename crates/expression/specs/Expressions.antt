-- Regular expressions by their texts: the syntax and the matches of Rust's regex crate, unanchored.
use Rattle.std.specs.Prelude.{◌≡◌, ℕ, ◌<◌, Bool, false, nat_le, List, get_or, chars, bytes_eq, Option, None, Some, is_some}
use Rattle.std.specs.List.{list_any, list_all}
use Rattle.regex_syntax.specs.Brackets.{Nested}
use Rattle.regex_syntax.specs.Grammar.{Names, read}
use Rattle.regex.specs.Patterns.{Re, find_str, default_config}

-- what was read is an expression that nests at most 250 deep
abbrev pub is_read : Option (Nested Re × Names) → Bool
is_read None = false
is_read (Some (re, names)) = nat_le re.depth 250

-- what was read has a match in the value
abbrev pub has_match : Option (Nested Re × Names) → (value : List ℕ) → Bool
has_match None value = false
has_match (Some (re, names)) value = is_some (find_str re.value value 0)

-- the text is an expression
unfoldable pub is_expression : (text : List ℕ) → Bool
is_expression text = is_read (read default_config (chars text))

-- the expression of this text has a match somewhere in the value
unfoldable pub is_match : (text : List ℕ) → (value : List ℕ) → Bool
is_match text value = has_match (read default_config (chars text)) value

-- a pattern finds a match in just the values in which the expression of this text does
unfoldable pub MatchesAs : (text : List ℕ) → Re → Type 0
MatchesAs text re = (value : List ℕ) → ((k : ℕ) → get_or value k 0 < 256) → is_some (find_str re value 0) ≡ is_match text value

-- the text is among these
abbrev pub is_known : List (List ℕ) → (text : List ℕ) → Bool
is_known texts text = list_any (λ known. bytes_eq known text) texts

-- each of the texts is among those
abbrev pub are_known : List (List ℕ) → (texts : List (List ℕ)) → Bool
are_known known texts = list_all (is_known known) texts
