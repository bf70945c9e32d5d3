-- How long the piece at the front of a text is: 0 where there is none of its kind (OTTL's lexer, `grammar.go`).
use Rattle.std.specs.Prelude.{ℕ, ◌+◌, Bool, false, not, ◌&&◌, ◌||◌, ◌==◌, nat_lt, nat_le, List, [], ◌∷◌, length, drop, slice_index, take_while, if◌then◌else◌}
use Rattle.std.specs.Char.{is_ascii_digit}

-- what is left behind so many bytes
abbrev pub behind : List ℕ → ℕ → List ℕ
behind text n = drop n text

-- a space, a tab, a line feed, a form feed, a carriage return
abbrev pub is_blank : ℕ → Bool
is_blank c = (c == 32) || (c == 9) || (c == 10) || (c == 12) || (c == 13)

abbrev pub skip_blank : List ℕ → List ℕ
skip_blank [] = []
skip_blank (c ∷ cs) = if is_blank c then skip_blank cs else c ∷ cs

abbrev pub is_upper : ℕ → Bool
is_upper c = nat_le 65 c && nat_le c 90

abbrev pub is_lower : ℕ → Bool
is_lower c = nat_le 97 c && nat_le c 122

-- `A` to `Z`, `a` to `z`
abbrev pub is_letter : ℕ → Bool
is_letter c = is_upper c || is_lower c

-- what a name has behind its first letter: letters, digits, `_` and `.`
abbrev pub is_of_word : ℕ → Bool
is_of_word c = is_letter c || is_ascii_digit c || (c == 95) || (c == 46)

abbrev pub is_hex : ℕ → Bool
is_hex c = is_ascii_digit c || (nat_le 65 c && nat_le c 70) || (nat_le 97 c && nat_le c 102)

-- how many bytes at the front pass a test
abbrev pub front_len : (ℕ → Bool) → List ℕ → ℕ
front_len p text = length (take_while p text)

-- a sign, `-` or `+`
abbrev pub sign_len : List ℕ → ℕ
sign_len text = if (slice_index text 0 == 45) || (slice_index text 0 == 43) then 1 else 0

unfoldable pub digits_len : List ℕ → ℕ
digits_len text = front_len is_ascii_digit text

-- `0x` and hex digits
unfoldable pub bytes_len : List ℕ → ℕ
bytes_len text =
    let digits = front_len is_hex (behind text 2) in
    if (slice_index text 0 == 48) && (slice_index text 1 == 120) && nat_lt 0 digits then 2 + digits else 0

-- a sign or none, and digits
unfoldable pub int_len : List ℕ → ℕ
int_len text =
    let sign = sign_len text in
    let digits = digits_len (behind text sign) in
    if nat_lt 0 digits then sign + digits else 0

-- `e` or `E`, a sign or none, and digits
unfoldable pub exponent_len : List ℕ → ℕ
exponent_len text =
    let digits = int_len (behind text 1) in
    if ((slice_index text 0 == 101) || (slice_index text 0 == 69)) && nat_lt 0 digits then 1 + digits else 0

-- a sign or none, digits or none, a point, digits, and an exponent or none
unfoldable pub float_len : List ℕ → ℕ
float_len text =
    let sign = sign_len text in
    let whole = sign + digits_len (behind text sign) in
    let digits = digits_len (behind text (whole + 1)) in
    let plain = whole + 1 + digits in
    if (slice_index text whole == 46) && nat_lt 0 digits then plain + exponent_len (behind text plain) else 0

-- a letter, and what else a name has
unfoldable pub word_len : List ℕ → ℕ
word_len text = if is_letter (slice_index text 0) then front_len is_of_word text else 0

-- a quote that no backslash stands before, and a backslash that none stands before
abbrev pub is_closing : (escaped : Bool) → ℕ → Bool
is_closing escaped c = not escaped && (c == 34)

abbrev pub is_escape : (escaped : Bool) → ℕ → Bool
is_escape escaped c = not escaped && (c == 92)

-- Where the text in quotes ends, whose opening quote stands before: the place of the first quote that no backslash
-- stands before. `escaped`: a backslash stands before; `place`: so many bytes have been looked at.
abbrev pub quote_from : (escaped : Bool) → (place : ℕ) → List ℕ → ℕ
quote_from escaped place [] = place
quote_from escaped place (c ∷ cs) = if is_closing escaped c then place else quote_from (is_escape escaped c) (place + 1) cs

-- that place, or the length where there is none
unfoldable pub quote_at : List ℕ → ℕ
quote_at text = quote_from false 0 text
