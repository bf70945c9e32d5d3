-- Texts that are made, none where they would be longer than 16,384 bytes.
use Rattle.std.specs.Prelude.{ℕ, ◌++◌, nat_le, List, length, map, chars, encode_utf8_all, Option, Some, None, if◌then◌else◌}
use Rattle.ottl_text.specs.declared.expression.Case.{Case}
use Rattle.ottl_made_texts.specs.Cases.{letter_in}

-- so many bytes long is a text at most
abbrev pub most_bytes : ℕ
most_bytes = 16384

-- a text, if there is room for it
unfoldable pub within : List ℕ → Option (List ℕ)
within t = if nat_le (length t) most_bytes then Some t else None

-- a text with each letter in a case
unfoldable pub letters_in : Case → List ℕ → List ℕ
letters_in case t = encode_utf8_all (map (letter_in case) (chars t))

abbrev pub in_case : Case → List ℕ → Option (List ℕ)
in_case case t = within (letters_in case t)

-- two texts with a delimiter between them
abbrev pub joined : (first delimiter others : List ℕ) → Option (List ℕ)
joined x d y = within (x ++ d ++ y)
