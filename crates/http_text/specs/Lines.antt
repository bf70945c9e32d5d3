-- Where the parts of a message end (RFC 9112, sections 2.1, 2.2 and 7.1): at the end of a line, or at an empty line.
use Rattle.std.specs.Prelude.{ℕ, suc, ◌+◌, Bool, true, ◌&&◌, List, [], ◌∷◌, length, take, drop, Option, None, Some, if◌then◌else◌, nat_lt, nat_le, ◌==◌, position}
use Rattle.std.specs.Option.{option_map}
use Rattle.httparse.specs.Ascii.{line_feed, carriage_return}
use Rattle.http_text.specs.declared.lines.TheConstants.{PART_LIMIT}

-- how many bytes the empty line at the front has: CRLF, LF alone, or 0 where there is none
abbrev pub empty_line_len : List ℕ → ℕ
empty_line_len [] = 0
empty_line_len (a ∷ []) = if a == line_feed then 1 else 0
empty_line_len (a ∷ b ∷ bytes) = if a == line_feed then 1 else (if (a == carriage_return) && (b == line_feed) then 2 else 0)

-- how many bytes the empty lines at the front have
abbrev pub blank_len : List ℕ → ℕ
blank_len [] = 0
blank_len (a ∷ []) = if a == line_feed then 1 else 0
blank_len (a ∷ b ∷ bytes) = if a == line_feed then suc (blank_len (b ∷ bytes)) else (if (a == carriage_return) && (b == line_feed) then suc (suc (blank_len bytes)) else 0)

-- the length through the first empty line; `starts` says that a line begins here
abbrev pub len_through_empty : Bool → List ℕ → Option ℕ
len_through_empty starts [] = None
len_through_empty starts (a ∷ bytes) =
    let empty = empty_line_len (a ∷ bytes) in
    if starts && nat_lt 0 empty then Some empty else option_map suc (len_through_empty (a == line_feed) bytes)

-- a trailer ends at its first empty line, which may be its first line
abbrev pub trailer_len : List ℕ → Option ℕ
trailer_len bytes = len_through_empty true bytes

-- a head ends at the first empty line after a line that isn't empty
abbrev pub head_len : List ℕ → Option ℕ
head_len bytes = option_map (λ n. blank_len bytes + n) (len_through_empty true (drop (blank_len bytes) bytes))

-- a chunk line ends at its first LF
abbrev pub line_len : List ℕ → Option ℕ
line_len bytes = option_map (λ at. at + 1) (position (λ b. b == line_feed) bytes)

-- what stands at the front of a stream: a part of so many bytes, or less than a part, or no end of one within the limit
pub data Cut : Type 0 where
  Whole : ℕ → Cut
  Waits TooLong : Cut

-- no end was found in the first bytes of a stream that has so many
abbrev pub without_end : ℕ → Cut
without_end len = if nat_le PART_LIMIT len then TooLong else Waits

-- what the search for an end found
abbrev pub cut_of : ℕ → Option ℕ → Cut
cut_of len None = without_end len
cut_of len (Some n) = Whole n

-- the part at the front of a stream, by the function that finds a part's end: it has to end within the limit
abbrev pub cut : (List ℕ → Option ℕ) → List ℕ → Cut
cut len_of stream = cut_of (length stream) (len_of (take PART_LIMIT stream))
