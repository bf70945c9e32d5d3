-- What is written for literals and keys.
use Rattle.std.specs.Prelude.{ℕ, true, false, ◌==◌, List, [], ◌∷◌, ◌++◌, codes, if◌then◌else◌}
use Rattle.std.specs.Float.{Float, float_is_finite}
use Rattle.std.specs.Fmt.{signed_decimal}
use Rattle.hex.specs.Hex.{encode_lower}
use Rattle.shortest_float.specs.Shortest.{shortest_text}
use Rattle.ottl_text.specs.declared.expression.Literal.{Literal}
use Rattle.ottl_text.specs.declared.expression.Literal.TheVariants as literals
use Rattle.ottl_text.specs.declared.expression.Key.{Key}
use Rattle.ottl_text.specs.declared.expression.Key.TheVariants as keys

-- the letter that stands for a byte behind a backslash, or 0
abbrev pub letter_of : ℕ → ℕ
letter_of c =
    if c == 34 then 34
    else if c == 92 then 92
    else if c == 7 then 97
    else if c == 8 then 98
    else if c == 12 then 102
    else if c == 10 then 110
    else if c == 13 then 114
    else if c == 9 then 116
    else if c == 11 then 118
    else 0

-- a byte of a text, with a backslash before it where it needs one
abbrev pub escaped_byte : ℕ → List ℕ
escaped_byte c = if letter_of c == 0 then c ∷ [] else 92 ∷ letter_of c ∷ []

abbrev pub escaped : List ℕ → List ℕ
escaped [] = []
escaped (c ∷ cs) = escaped_byte c ++ escaped cs

abbrev pub in_quotes : List ℕ → List ℕ
in_quotes s = 34 ∷ (escaped s ++ 34 ∷ [])

-- `.0` in front of an exponent that no point stands before: a float of the language has a point
abbrev pub with_a_point : List ℕ → List ℕ
with_a_point [] = []
with_a_point (c ∷ cs) =
    if c == 46 then c ∷ cs
    else if c == 101 then 46 ∷ 48 ∷ c ∷ cs
    else c ∷ with_a_point cs

-- the fewest digits that read as the float, and nothing where it isn't finite: no text is read as such a one
unfoldable pub float_text : Float → List ℕ
float_text x = if float_is_finite x then with_a_point (shortest_text x) else []

-- digits behind `0x`
abbrev pub hex_text : List ℕ → List ℕ
hex_text s = 48 ∷ 120 ∷ encode_lower s

abbrev pub literal_text : Literal → List ℕ
literal_text literals.Nil = codes "nil"
literal_text (literals.Bool true) = codes "true"
literal_text (literals.Bool false) = codes "false"
literal_text (literals.Int z) = signed_decimal z
literal_text (literals.Float x) = float_text x
literal_text (literals.Text s) = in_quotes s
literal_text (literals.Bytes s) = hex_text s

abbrev pub key_text : Key → List ℕ
key_text (keys.Text s) = in_quotes s
key_text (keys.Index z) = signed_decimal z

abbrev pub bracketed : Key → List ℕ
bracketed k = 91 ∷ (key_text k ++ 93 ∷ [])

abbrev pub keys_text : List Key → List ℕ
keys_text [] = []
keys_text (k ∷ ks) = 91 ∷ (key_text k ++ 93 ∷ keys_text ks)
