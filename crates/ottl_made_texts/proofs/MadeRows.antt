-- Worked rows of texts that are made, by computation.
-- No contract rests on it: it shows the definitions on worked cases.
use Rattle.std.specs.Prelude.{◌≡◌, ℕ, List, [], ◌∷◌, ◌++◌, map as each_of, replicate, codes, Some, None, refl}
use Rattle.std.specs.Str.{chars}
use lib.Utf8.{encode}
use Rattle.std.specs.Char.Unicode.Rows.{by_runs, by_strings}
use Rattle.std.specs.Char.Unicode.ToUppercase.{uppercase_runs, uppercase_strings, to_uppercase}
use Rattle.std.specs.Char.Unicode.ToLowercase.{lowercase_runs, lowercase_strings, to_lowercase}
use Rattle.ottl_text.specs.declared.expression.Case.{Case}
use Rattle.ottl_text.specs.declared.expression.Case.TheVariants.{Lower, Upper}
use Rattle.ottl_made_texts.specs.Cases.{letter_in}
use Rattle.ottl_made_texts.specs.MadeTexts.{within, letters_in, in_case, joined}

-- letters of ASCII and others, by their simple mapping: `ß` and `ﬃ` stay; a long s; sigma at the end of a word; `ᾳ`, which has an
-- iota below; `İ`; letters that become longer and shorter in UTF-8; a title letter
pub uppers : each_of (letter_in Upper) (97 ∷ 90 ∷ 49 ∷ 0xE4 ∷ 0xDF ∷ 0xFB03 ∷ 0x17F ∷ 0x3C2 ∷ 0x1F80 ∷ 0x1FB3 ∷ 0x1FF3 ∷ 0x1F88 ∷ 0x131 ∷ 0x250 ∷ 0x1C5 ∷ 0xFF ∷ []) ≡
    65 ∷ 90 ∷ 49 ∷ 0xC4 ∷ 0xDF ∷ 0xFB03 ∷ 83 ∷ 0x3A3 ∷ 0x1F88 ∷ 0x1FBC ∷ 0x1FFC ∷ 0x1F88 ∷ 73 ∷ 0x2C6F ∷ 0x1C4 ∷ 0x178 ∷ []
unfolding letter_in by_runs by_strings uppercase_runs uppercase_strings to_uppercase lowercase_runs lowercase_strings to_lowercase
uppers = refl

pub lowers : each_of (letter_in Lower) (65 ∷ 122 ∷ 49 ∷ 0xC4 ∷ 0x1E9E ∷ 0x3A3 ∷ 0x1F88 ∷ 0x130 ∷ 0x23A ∷ 0x212A ∷ 0x1C5 ∷ []) ≡
    97 ∷ 122 ∷ 49 ∷ 0xE4 ∷ 0xDF ∷ 0x3C3 ∷ 0x1F80 ∷ 105 ∷ 0x2C65 ∷ 107 ∷ 0x1C6 ∷ []
unfolding letter_in by_runs by_strings uppercase_runs uppercase_strings to_uppercase lowercase_runs lowercase_strings to_lowercase
lowers = refl

-- texts: `höß` in either case; none
pub texts : in_case Upper (104 ∷ 195 ∷ 182 ∷ 195 ∷ 159 ∷ []) ∷ in_case Lower (codes "GET /A") ∷ in_case Upper [] ∷ [] ≡
    Some (72 ∷ 195 ∷ 150 ∷ 195 ∷ 159 ∷ []) ∷ Some (codes "get /a") ∷ Some [] ∷ []
unfolding within letters_in letter_in by_runs by_strings uppercase_runs uppercase_strings to_uppercase lowercase_runs lowercase_strings to_lowercase chars encode
texts = refl

-- a delimiter between two texts, of which each may be empty
pub joins : joined (codes "a") (codes ", ") (codes "b") ∷ joined [] (codes "-") [] ∷ joined (codes "a") [] (codes "b") ∷ [] ≡
    Some (codes "a, b") ∷ Some (codes "-") ∷ Some (codes "ab") ∷ []
unfolding within
joins = refl

-- the longest text, and one byte more
abbrev long : ℕ → List ℕ
long n = replicate n 97

pub longest : joined (long 16380) (codes "-") (codes "abc") ∷ joined (long 16380) (codes "-") (codes "abcd") ∷ [] ≡ Some (long 16380 ++ codes "-abc") ∷ None ∷ []
unfolding within
longest = refl
