-- Letters in another case, each by its simple mapping (Unicode, UnicodeData.txt), as Go's `strings.ToLower` and `strings.ToUpper` take it.
-- Where the full mapping is one letter it is the simple one; of the others, which SpecialCasing.txt lists, the simple one stands here.
use Rattle.std.specs.Prelude.{ℕ, ◌+◌, ◌||◌, ◌&&◌, ◌==◌, Bool, nat_le, List, [], ◌∷◌, Option, Some, None, if◌then◌else◌}
use Rattle.std.specs.Char.Unicode.ToUppercase.{to_uppercase}
use Rattle.std.specs.Char.Unicode.ToLowercase.{to_lowercase}
use Rattle.ottl_text.specs.declared.expression.Case.{Case}
use Rattle.ottl_text.specs.declared.expression.Case.TheVariants as cases

-- the letter of a mapping that has just one
abbrev pub only : List ℕ → Option ℕ
only (c ∷ []) = Some c
only _ = None

abbrev pub or_else : Option ℕ → ℕ → ℕ
or_else (Some c) other = c
or_else None other = other

abbrev pub is_between : (first last : ℕ) → ℕ → Bool
is_between first last c = nat_le first c && nat_le c last

-- the Greek letters with an iota below that stand beside their capitals; other letters stay, as `ß`
abbrev pub upper_of_long : ℕ → ℕ
upper_of_long c =
    if is_between 0x1F80 0x1F87 c || is_between 0x1F90 0x1F97 c || is_between 0x1FA0 0x1FA7 c then c + 8
    else if (c == 0x1FB3) || (c == 0x1FC3) || (c == 0x1FF3) then c + 9
    else c

-- the capital I with a dot
abbrev pub lower_of_long : ℕ → ℕ
lower_of_long c = if c == 0x130 then 0x69 else c

-- a letter in a case
unfoldable pub letter_in : Case → ℕ → ℕ
letter_in cases.Lower c = or_else (only (to_lowercase c)) (lower_of_long c)
letter_in cases.Upper c = or_else (only (to_uppercase c)) (upper_of_long c)
