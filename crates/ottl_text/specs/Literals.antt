-- What the pieces of a text that are literals write.
use Rattle.std.specs.Prelude.{ℕ, ◌^◌, ℤ, pos, negsuc, Bool, true, false, ◌&&◌, ◌==◌, nat_lt, List, [], ◌∷◌, ◌++◌, length, Option, Some, None, Result, Ok, Err, if◌then◌else◌}
use Rattle.std.specs.Char.{digit_value}
use Rattle.std.specs.List.{list_all}
use Rattle.std.specs.Str.{is_utf8}
use Rattle.std.specs.Str.Parse.{without_leading_sign, signed_digits_value}
use Rattle.std.specs.Float.{Float, binary64, float_is_finite}
use Rattle.std.specs.Float.Parse.{parse_float}
use Rattle.hex.specs.Hex.{decode_of}
use Rattle.hex.specs.declared.error.FromHexError.{FromHexError}
use Rattle.ottl_text.specs.declared.fault.FaultKind.{FaultKind}
use Rattle.ottl_text.specs.declared.fault.FaultKind.TheVariants as faults
use Rattle.ottl_text.specs.Gives.{◌>>=◌}

-- digits, one at least
abbrev pub are_digits : List ℕ → Bool
are_digits s = nat_lt 0 (length s) && list_all (λ c. nat_lt (digit_value c) 10) s

-- from -2^63 on and below 2^63
abbrev pub fits : ℤ → Bool
fits (pos n) = nat_lt n (2 ^ 63)
fits (negsuc n) = nat_lt n (2 ^ 63)

-- the whole number that a sign or none and digits write
unfoldable pub int_of : List ℕ → Result ℤ FaultKind
int_of s = if are_digits (without_leading_sign s) && fits (signed_digits_value 10 s) then Ok (signed_digits_value 10 s) else Err faults.NumberTooBig

-- a float that is no infinity
abbrev pub finite : Option Float → Result Float FaultKind
finite None = Err faults.NumberTooBig
finite (Some x) = if float_is_finite x then Ok x else Err faults.NumberTooBig

-- the nearest float
unfoldable pub float_of : List ℕ → Result Float FaultKind
float_of s = finite (parse_float binary64 s)

abbrev pub decoded : Result (List ℕ) FromHexError → Result (List ℕ) FaultKind
decoded (Ok bytes) = Ok bytes
decoded (Err e) = Err faults.OddDigits

-- the bytes that hex digits write
unfoldable pub bytes_of : List ℕ → Result (List ℕ) FaultKind
bytes_of s = decoded (decode_of s)

-- what a byte behind a backslash stands for, or 0
abbrev pub escape_of : ℕ → ℕ
escape_of c =
    if c == 34 then 34
    else if c == 92 then 92
    else if c == 97 then 7
    else if c == 98 then 8
    else if c == 102 then 12
    else if c == 110 then 10
    else if c == 114 then 13
    else if c == 116 then 9
    else if c == 118 then 11
    else 0

-- what one byte adds: the bytes so far, and whether a backslash stands before the next
abbrev pub unescape_byte : (escaped : Bool) → (done : List ℕ) → ℕ → Result (Bool × List ℕ) FaultKind
unescape_byte true done c = if escape_of c == 0 then Err faults.UnknownEscape else Ok (false, done ++ escape_of c ∷ [])
unescape_byte false done c =
    if c == 92 then Ok (true, done)
    else if c == 10 then Err faults.LineEnd
    else Ok (false, done ++ c ∷ [])

-- the bytes that are written between quotes, behind those of `done`
abbrev pub unescape : (Bool × List ℕ) → List ℕ → Result (List ℕ) FaultKind
unescape so_far [] = Ok so_far.1
unescape so_far (c ∷ cs) = unescape_byte so_far.0 so_far.1 c >>= λ next. unescape next cs

abbrev pub in_utf8 : List ℕ → Result (List ℕ) FaultKind
in_utf8 s = if is_utf8 s then Ok s else Err faults.Utf8

-- the text that is written between quotes
unfoldable pub text_of : List ℕ → Result (List ℕ) FaultKind
text_of s = unescape (false, []) s >>= in_utf8
