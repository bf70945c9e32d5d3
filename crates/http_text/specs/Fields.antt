-- What the fields of a head say (RFC 9110, section 5; RFC 9112, section 6), from the list of names and values.
use Rattle.std.specs.Prelude.{ℕ, suc, min, Bool, false, not, take, drop, ◌&&◌, ◌||◌, List, [], ◌∷◌, map, length, Option, Some, None, if◌then◌else◌, nat_lt, ◌==◌, codes, filter}
use Rattle.std.specs.List.{list_all, list_any, before_first}
use Rattle.std.specs.Char.{is_ascii_digit}
use Rattle.std.specs.Str.Parse.{digits_value}
use Rattle.std.specs.Str.{str_eq_ignore_ascii_case}
use Rattle.httparse.specs.Ascii.{comma, semicolon}
use Rattle.httparse.specs.Grammar.{trim_ows}
use Rattle.otlp_encoding.specs.declared.encoding.Encoding.{Encoding}
use Rattle.otlp_encoding.specs.declared.encoding.Encoding.TheVariants.{Json, Protobuf}
use Rattle.otlp_encoding.specs.MediaTypes.{media_type as media_type_of}
use Rattle.http_text.specs.declared.allowed.Allowed.{Allowed}
use Rattle.http_text.specs.declared.request.Framing.{Framing}
use Rattle.http_text.specs.declared.request.Framing.TheVariants.{Length, Chunked}

-- a name and a value
abbrev pub Header : Type 0
Header = List ℕ × List ℕ

-- the value of every field with this name, in order
abbrev pub values_named : List ℕ → List Header → List (List ℕ)
values_named name headers = map (λ (h : Header). h.1) (filter (λ (h : Header). str_eq_ignore_ascii_case h.0 name) headers)

-- 1*DIGIT
abbrev pub is_number : List ℕ → Bool
is_number text = nat_lt 0 (length text) && list_all is_ascii_digit text

-- the words of a comma list
abbrev pub cons_first : ℕ → List (List ℕ) → List (List ℕ)
cons_first b [] = (b ∷ []) ∷ []
cons_first b (word ∷ words) = (b ∷ word) ∷ words

abbrev pub split_commas : List ℕ → List (List ℕ)
split_commas [] = [] ∷ []
split_commas (b ∷ bytes) = if b == comma then [] ∷ split_commas bytes else cons_first b (split_commas bytes)

-- the elements of a comma list, where empty ones are passed over (RFC 9110, section 5.6.1.2)
abbrev pub elements : List ℕ → List (List ℕ)
elements value = filter (λ w. nat_lt 0 (length w)) (map trim_ows (split_commas value))

-- the coding that a field says: the one element of its list, and a list of none or of more says none that is known
abbrev pub coding_by : List ℕ → List (List ℕ) → List ℕ
coding_by value (coding ∷ []) = coding
coding_by value _ = value

abbrev pub coding_of : List ℕ → List ℕ
coding_of value = coding_by value (elements value)

-- a length above the limit is refused, so it is taken for the next number above the limit
-- the framing by the values of `Content-Length` and of `Transfer-Encoding`
abbrev pub framing_by : (limit : ℕ) → List (List ℕ) → List (List ℕ) → Option Framing
framing_by limit [] [] = Some (Length 0)
framing_by limit (text ∷ []) [] = if is_number text then Some (Length (min (digits_value 10 text) (suc limit))) else None
framing_by limit [] (value ∷ []) = if str_eq_ignore_ascii_case (coding_of value) (codes "chunked") then Some Chunked else None
framing_by limit _ _ = None

-- how the body is framed, or None where the fields don't say it in one way
abbrev pub framing : (limit : ℕ) → List Header → Option Framing
framing limit headers = framing_by limit (values_named (codes "content-length") headers) (values_named (codes "transfer-encoding") headers)

-- the one value, if there is exactly one
abbrev pub only : List (List ℕ) → Option (List ℕ)
only (value ∷ []) = Some value
only _ = None

-- the media type: the value before any `;`
abbrev pub media_type : List ℕ → List ℕ
media_type value = trim_ows (before_first (λ b. b == semicolon) value)

-- one `Content-Type`, of this media type
abbrev pub is_of_by : List ℕ → Option (List ℕ) → Bool
is_of_by media None = false
is_of_by media (Some value) = str_eq_ignore_ascii_case (media_type value) media

abbrev pub is_of : List ℕ → List Header → Bool
is_of media headers = is_of_by media (only (values_named (codes "content-type") headers))

-- what the body is written in: JSON, or protobuf where that is taken
abbrev pub encoding_of : Allowed → List Header → Option Encoding
encoding_of allowed headers =
    if is_of (media_type_of Json) headers then Some Json
    else (if allowed.protobuf && is_of (media_type_of Protobuf) headers then Some Protobuf else None)

-- the header has this name, and its value passes the test
abbrev pub has : List ℕ → (List ℕ → Bool) → Header → Bool
has name test h = str_eq_ignore_ascii_case h.0 name && test h.1

-- a coding of the content but `identity`
abbrev pub is_coded : List ℕ → Bool
is_coded value = not (str_eq_ignore_ascii_case (coding_of value) (codes "identity"))

-- no coding but `identity`
abbrev pub is_plain : List Header → Bool
is_plain headers = not (list_any (has (codes "content-encoding") is_coded) headers)

-- the codings of the content but `identity`, in the order in which they were applied (RFC 9110, section 8.4), by fields
-- of one coding each
abbrev pub codings : List Header → List (List ℕ)
codings headers = map (λ (h : Header). coding_of h.1) (filter (has (codes "content-encoding") is_coded) headers)

-- `gzip`, or `x-gzip`, which is the same (RFC 9110, section 8.4.1.3)
abbrev pub is_gzip : List ℕ → Bool
is_gzip coding = str_eq_ignore_ascii_case coding (codes "gzip") || str_eq_ignore_ascii_case coding (codes "x-gzip")

abbrev pub is_gzip_by : Option (List ℕ) → Bool
is_gzip_by None = false
is_gzip_by (Some coding) = is_gzip coding

-- the content is packed: its one coding is gzip
abbrev pub is_packed : List Header → Bool
is_packed headers = is_gzip_by (only (codings headers))

-- a coding that is taken: none, or gzip where it is taken
abbrev pub is_taken : Allowed → List Header → Bool
is_taken allowed headers = is_plain headers || (allowed.gzip && is_packed headers)

-- the name or the address of a `Host`, before any port
abbrev pub host_name : List ℕ → List ℕ
host_name host = before_first (λ b. b == 58) host

-- an address literal of version 6, in brackets (RFC 3986, section 3.2.2)
abbrev pub is_bracketed : List ℕ → Bool
is_bracketed [] = false
is_bracketed (b ∷ bytes) = b == 91

-- a host that no site of the internet can have: an address literal, or a name without a dot
abbrev pub is_own_host : List ℕ → Bool
is_own_host host =
    is_bracketed host || (not (list_any (λ b. b == 46) (host_name host)) || list_all (λ b. is_ascii_digit b || (b == 46)) (host_name host))

-- an `Origin` of this host (RFC 6454, section 6.2)
abbrev pub is_own_origin : (host value : List ℕ) → Bool
is_own_origin host value = str_eq_ignore_ascii_case (take 7 value) (codes "http://") && str_eq_ignore_ascii_case (drop 7 value) host

-- `Sec-Fetch-Site` says that a page of the same origin sent the request, or the user
abbrev pub is_own_site : List ℕ → Bool
is_own_site value = str_eq_ignore_ascii_case value (codes "same-origin") || str_eq_ignore_ascii_case value (codes "none")

-- the field says that a page of another site sent the request
abbrev pub is_foreign_field : (host : List ℕ) → Header → Bool
is_foreign_field host h =
    has (codes "origin") (λ value. not (is_own_origin host value)) h || has (codes "sec-fetch-site") (λ value. not (is_own_site value)) h

abbrev pub is_foreign_by : Option (List ℕ) → List Header → Bool
is_foreign_by None headers = false
is_foreign_by (Some host) headers = not (is_own_host host) || list_any (is_foreign_field host) headers

-- a page of another site may have sent the request: it is asked of a name that such a site can have, or a field says so
abbrev pub is_foreign : List Header → Bool
is_foreign headers = is_foreign_by (only (values_named (codes "host") headers)) headers

-- the comma list has this word, where a word is trimmed
abbrev pub has_word : List ℕ → List ℕ → Bool
has_word word value = list_any (λ w. str_eq_ignore_ascii_case (trim_ows w) word) (split_commas value)

-- `Connection` lists `close`
abbrev pub says_close : List Header → Bool
says_close headers = list_any (has (codes "connection") (has_word (codes "close"))) headers

-- `Expect` says `100-continue`
abbrev pub expects_continue : List Header → Bool
expects_continue headers = list_any (has (codes "expect") (λ value. str_eq_ignore_ascii_case value (codes "100-continue"))) headers
