-- The pieces of a text (OTTL's lexer, `grammar.go`: the first rule that fits is taken). What differs: a name with its dots
-- is one piece, and so is the name of a function.
use Rattle.std.specs.Prelude.{ℕ, ◌+◌, Bool, ◌||◌, ◌==◌, nat_lt, List, length, take, Option, Some, None, Result, Ok, Err, slice_index, if◌then◌else◌}
use Rattle.ottl_text.specs.declared.token.Token.{Token}
use Rattle.ottl_text.specs.declared.token.Token.TheVariants as declared_as
use Rattle.ottl_text.specs.declared.expression.Binary.{Binary}
use Rattle.ottl_text.specs.declared.expression.Binary.TheVariants as two
use Rattle.ottl_text.specs.declared.fault.FaultKind.{FaultKind}
use Rattle.ottl_text.specs.declared.fault.FaultKind.TheVariants as faults
use Rattle.ottl_lengths.specs.Lengths.{behind, skip_blank, bytes_len, float_len, int_len, word_len, quote_at}

-- the end, the digits behind `0x`, a number, what stands between quotes, a name, an operator, a parenthesis or a comma
pub data Piece : Type 0 where
  end : Piece
  bytes : List ℕ → Piece
  float : List ℕ → Piece
  int : List ℕ → Piece
  text : List ℕ → Piece
  word : List ℕ → Piece
  operator : Binary → Piece
  sign : ℕ → Piece

-- the piece that a token is
abbrev pub piece_of : Token → Piece
piece_of declared_as.End = end
piece_of (declared_as.Bytes s) = bytes s.now
piece_of (declared_as.Float s) = float s.now
piece_of (declared_as.Int s) = int s.now
piece_of (declared_as.Text s) = text s.now
piece_of (declared_as.Word s) = word s.now
piece_of (declared_as.Operator b) = operator b
piece_of (declared_as.Sign c) = sign c

-- an operator of two bytes: `==`, `!=`, `>=`, `<=`
abbrev pub long_operator : (first second : ℕ) → Option Binary
long_operator first second =
    if second == 61 then
    (if first == 61 then Some two.Equal
    else if first == 33 then Some two.NotEqual
    else if first == 62 then Some two.AtLeast
    else if first == 60 then Some two.AtMost
    else None)
    else None

-- an operator of one byte: `>`, `<`, `+`, `-`, `*`, `/`
abbrev pub short_operator : ℕ → Option Binary
short_operator c =
    if c == 62 then Some two.Greater
    else if c == 60 then Some two.Less
    else if c == 43 then Some two.Add
    else if c == 45 then Some two.Subtract
    else if c == 42 then Some two.Multiply
    else if c == 47 then Some two.Divide
    else None

-- `(`, `)`, `[`, `]`, `,`
abbrev pub is_sign : ℕ → Bool
is_sign c = (c == 40) || (c == 41) || (c == 91) || (c == 93) || (c == 44)

abbrev pub by_short : Option Binary → List ℕ → Result (Piece × List ℕ) FaultKind
by_short (Some b) s = Ok (operator b, behind s 1)
by_short None s = if is_sign (slice_index s 0) then Ok (sign (slice_index s 0), behind s 1) else Err faults.UnknownCharacter

abbrev pub by_long : Option Binary → List ℕ → Result (Piece × List ℕ) FaultKind
by_long (Some b) s = Ok (operator b, behind s 2)
by_long None s = by_short (short_operator (slice_index s 0)) s

-- an operator of two bytes, or else of one, or a sign
unfoldable pub marked : List ℕ → Result (Piece × List ℕ) FaultKind
marked s = by_long (long_operator (slice_index s 0) (slice_index s 1)) s

-- what stands between the quote that stood before and the next
unfoldable pub quoted : List ℕ → Result (Piece × List ℕ) FaultKind
quoted s = if nat_lt (quote_at s) (length s) then Ok (text (take (quote_at s) s), behind s (quote_at s + 1)) else Err faults.OpenText

-- a name, a text or a mark
unfoldable pub unnumbered : List ℕ → Result (Piece × List ℕ) FaultKind
unnumbered s =
    if nat_lt 0 (word_len s) then Ok (word (take (word_len s) s), behind s (word_len s))
    else if slice_index s 0 == 34 then quoted (behind s 1)
    else marked s

-- the piece at the front of a text that begins with no blank, and what is left behind it
unfoldable pub piece_at : List ℕ → Result (Piece × List ℕ) FaultKind
piece_at s =
    if length s == 0 then Ok (end, s)
    else if nat_lt 0 (bytes_len s) then Ok (bytes (behind (take (bytes_len s) s) 2), behind s (bytes_len s))
    else if nat_lt 0 (float_len s) then Ok (float (take (float_len s) s), behind s (float_len s))
    else if nat_lt 0 (int_len s) then Ok (int (take (int_len s) s), behind s (int_len s))
    else unnumbered s

-- the first piece of a text, and what is left behind it
unfoldable pub next_piece : List ℕ → Result (Piece × List ℕ) FaultKind
next_piece s = piece_at (skip_blank s)
