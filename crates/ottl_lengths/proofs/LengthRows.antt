-- Worked rows of lengths, by computation.
-- No contract rests on it: it shows the definitions on worked cases.
use Rattle.std.specs.Prelude.{◌≡◌, [], ◌∷◌, map, codes, refl}
use Rattle.ottl_lengths.specs.Lengths.{skip_blank, digits_len, bytes_len, int_len, exponent_len, float_len, word_len, quote_at}

-- a sign belongs to the number, a point needs digits behind it, an exponent too
pub of_numbers : map int_len (codes "-12)" ∷ codes "+2" ∷ codes "- 2" ∷ codes "a" ∷ []) ≡ 3 ∷ 2 ∷ 0 ∷ 0 ∷ []
unfolding digits_len int_len
of_numbers = refl

pub of_floats : map float_len (codes "1.5e3 " ∷ codes ".5" ∷ codes "7." ∷ codes "-1.25e" ∷ codes "12" ∷ codes "2.0E-1x" ∷ []) ≡ 5 ∷ 2 ∷ 0 ∷ 5 ∷ 0 ∷ 6 ∷ []
unfolding digits_len int_len exponent_len float_len
of_floats = refl

pub of_bytes : map bytes_len (codes "0xA0g" ∷ codes "0x" ∷ codes "0XA0" ∷ codes "1xA0" ∷ []) ≡ 4 ∷ 0 ∷ 0 ∷ 0 ∷ []
unfolding bytes_len
of_bytes = refl

-- a name begins with a letter; a quote behind a backslash ends no text
pub of_names : map word_len (codes "status.code==2" ∷ codes "a_1 b" ∷ codes "_a" ∷ codes "1a" ∷ []) ≡ 11 ∷ 3 ∷ 0 ∷ 0 ∷ []
unfolding word_len
of_names = refl

pub of_texts : map quote_at (codes "a\\\"b\"c" ∷ codes "\"" ∷ codes "a" ∷ codes "a\\\\\"" ∷ []) ≡ 4 ∷ 0 ∷ 1 ∷ 3 ∷ []
unfolding quote_at
of_texts = refl

pub of_blanks : map skip_blank (codes " \t\n\r a " ∷ codes "a" ∷ codes "  " ∷ []) ≡ codes "a " ∷ codes "a" ∷ [] ∷ []
of_blanks = refl
