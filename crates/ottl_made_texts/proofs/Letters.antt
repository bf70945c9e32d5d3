-- A text in a case letter by letter, and texts that there is room for.
-- For made_texts::put_in_case, made_texts::in_case and made_texts::joined.
use Rattle.std.proofs.Common.{◌≡◌, ℕ, ◌+◌, ◌≤◌, ◌<◌, true, false, List, [], ◌++◌, map, length, chars, encode_utf8, IsUtf8, Option, Some, None, refl, ap, ◌∙◌, arith}
use Rattle.std.specs.Prelude.{nat_le}
use Rattle.std.proofs.lemmas.Bool.Decides.{nat_tests}
use Rattle.std.proofs.lemmas.Str.{chars_past_char, chars-nil, encodes-append}
use Rattle.std.proofs.lemmas.List.{nil_from_length, length-append}
use Rattle.ottl_text.specs.declared.expression.Case.{Case}
use Rattle.ottl_made_texts.specs.Cases.{letter_in}
use Rattle.ottl_made_texts.specs.MadeTexts.{most_bytes, within, letters_in}

pub letters_in-empty : (case : Case) (text : List ℕ) → length text ≡ 0 → letters_in case text ≡ []
unfolding letters_in
letters_in-empty case text none = rw (nil_from_length text none, chars-nil) refl

pub letters_in-step : (case : Case) (text rest : List ℕ) (c : ℕ) → IsUtf8 text → text ≡ encode_utf8 c ++ rest
    → letters_in case text ≡ encode_utf8 (letter_in case c) ++ letters_in case rest
unfolding letters_in
letters_in-step case text rest c utf8 parts = rw (chars_past_char text rest c utf8 parts)

pub is_within : (t : List ℕ) → length t ≤ most_bytes → Some t ≡ within t
unfolding within
is_within t h = let small : nat_le (length t) 16384 ≡ true = grind (arith, nat_tests, h) in rw small refl

pub is_not_within : (t : List ℕ) → most_bytes < length t → None ≡ within t
unfolding within
is_not_within t h = let big : nat_le (length t) 16384 ≡ false = grind (arith, nat_tests, h) in rw big refl

-- what goes on behind a text that is too long is too long
pub longer : (done here more whole : List ℕ) → done ++ (here ++ more) ≡ whole → most_bytes < length done + length here → most_bytes < length whole
longer done here more whole e h = rw (← e, length-append, length-append) (omega (arith, h))
