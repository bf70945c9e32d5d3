-- What the head at the front of a stream comes to (RFC 9112, sections 2 to 6), by the grammar of `httparse`.
use Rattle.std.specs.Prelude.{◌≡◌, ℕ, ◌-◌, ◌<◌, ◌≤◌, ◌⊎◌, Bool, true, false, not, ◌&&◌, ◌||◌, List, [], map, length, take, drop, Option, Some, None, if◌then◌else◌, nat_le, ◌==◌, codes, count_by, bytes_eq}
use Rattle.httparse.specs.Ascii.{line_feed}
use Rattle.httparse.specs.Grammar.{RequestHead, ReadsRequest}
use Rattle.httparse.specs.Spans.{name_and_value}
use Rattle.otlp_encoding.specs.declared.encoding.Encoding.{Encoding}
use Rattle.http_text.specs.declared.allowed.Allowed.{Allowed}
use Rattle.http_text.specs.Lines.{Cut, Whole, Waits, TooLong}
use Rattle.http_text.specs.declared.request.TheConstants.{FIELD_LIMIT}
use Rattle.http_text.specs.declared.request.Framing.{Framing}
use Rattle.http_text.specs.declared.request.Framing.TheVariants.{Length, Chunked}
use Rattle.http_text.specs.declared.request.RequestRefusal.{RequestRefusal}
use Rattle.http_text.specs.declared.request.RequestRefusal.TheVariants.{HeadTooLarge, BadRequest, NotFound, MethodNotAllowed, Forbidden, UnsupportedMediaType, NeitherMediaType, GzipIsOff, UnsupportedCoding, NeitherCoding, BodyTooLarge}
use Rattle.http_text.specs.declared.request.HeadVerdict.{HeadVerdict}
use Rattle.http_text.specs.declared.request.HeadVerdict.TheVariants.{Refused, Close, Post as Posted}
use Rattle.http_text.specs.Host.{has_host}
use Rattle.http_text.specs.Fields.{Header, framing, encoding_of, is_packed, is_taken, says_close, expects_continue, is_foreign}
use Rattle.http_text.specs.Lines.{head_len, blank_len, cut}

-- the fields of a head's text: the lines between the request line and the empty line at the end
abbrev pub field_lines : List ℕ → ℕ
field_lines text = count_by (λ b. b == line_feed) (drop (blank_len text) text) - 2

abbrev pub is_post : List ℕ → Bool
is_post method = bytes_eq method (codes "POST")

abbrev pub refused : List ℕ → RequestRefusal → HeadVerdict
refused method refusal = Refused refusal (bytes_eq method (codes "HEAD"))

-- a length within the limit; chunks are added up as they come
abbrev pub fits : (limit : ℕ) → Framing → Bool
fits limit (Length n) = nat_le n limit
fits limit Chunked = true

-- why a coding isn't taken
abbrev pub coding_refusal : (takes_gzip is_packed : Bool) → RequestRefusal
coding_refusal takes_gzip is_packed = if takes_gzip then NeitherCoding else (if is_packed then GzipIsOff else UnsupportedCoding)

-- why a media type isn't taken
abbrev pub type_refusal : (takes_protobuf : Bool) → RequestRefusal
type_refusal takes_protobuf = if takes_protobuf then NeitherMediaType else UnsupportedMediaType

-- a request for the traces whose body is written in this, by its other fields
abbrev pub posted_in : Encoding → Allowed → List ℕ → List Header → Framing → HeadVerdict
posted_in encoding allowed method headers framed =
    if not (is_taken allowed headers) then refused method (coding_refusal allowed.gzip (is_packed headers))
    else (if not (fits allowed.body_limit framed) then refused method BodyTooLarge
    else Posted (record { framing = framed; encoding = encoding; expects_continue = expects_continue headers; is_packed = is_packed headers; says_close = says_close headers }))

abbrev pub posted_by : Option Encoding → Allowed → List ℕ → List Header → Framing → HeadVerdict
posted_by None allowed method headers framed = refused method (type_refusal allowed.protobuf)
posted_by (Some encoding) allowed method headers framed = posted_in encoding allowed method headers framed

-- a request for the traces, by its fields
abbrev pub posted : Allowed → List ℕ → List Header → Framing → HeadVerdict
posted allowed method headers framed = posted_by (encoding_of allowed headers) allowed method headers framed

-- the target at which the collector is closed, where that is allowed
abbrev pub is_close : Allowed → List ℕ → Bool
is_close allowed target = allowed.close && bytes_eq target (codes "/close")

-- a request to close, by its fields
abbrev pub closing : List ℕ → List Header → HeadVerdict
closing method headers = if is_foreign headers then refused method Forbidden else Close

-- where a message that is framed goes, by its target
abbrev pub routed : Allowed → List ℕ → List ℕ → List Header → Framing → HeadVerdict
routed allowed method target headers framed =
    if is_close allowed target && is_post method then closing method headers
    else (if not (is_close allowed target || bytes_eq target (codes "/v1/traces")) then refused method NotFound
    else (if not (is_post method) then refused method MethodNotAllowed
    else posted allowed method headers framed))

abbrev pub framed_or_bad : Allowed → List ℕ → List ℕ → List Header → Option Framing → HeadVerdict
framed_or_bad allowed method target headers None = refused method BadRequest
framed_or_bad allowed method target headers (Some framed) = routed allowed method target headers framed

-- the rows of the table that are about the head, in their order; what is allowed is a setting
abbrev pub verdict_by : Allowed → List ℕ → List ℕ → ℕ → List Header → HeadVerdict
verdict_by allowed method target minor headers =
    if (minor == 1) && has_host headers
    then framed_or_bad allowed method target headers (framing allowed.body_limit headers)
    else refused method BadRequest

abbrev pub verdict : Allowed → RequestHead → HeadVerdict
verdict allowed h = verdict_by allowed h.method h.target h.minor (map name_and_value h.fields)

-- the whole text is this head
abbrev pub IsHead : List ℕ → RequestHead → Type 0
IsHead text h = ReadsRequest text h [] × (length h.fields ≤ FIELD_LIMIT)

-- what the text of a head comes to, where it has no more lines than are allowed
abbrev pub Judges : Allowed → List ℕ → HeadVerdict → Type 0
Judges allowed text v =
    ((h : RequestHead) × IsHead text h × (v ≡ verdict allowed h))
    ⊎ (((h : RequestHead) → ¬ (IsHead text h)) × (v ≡ Refused BadRequest false))

-- what the text of a head comes to, by what is allowed
pub record IsVerdict (allowed : Allowed) (text : List ℕ) (v : HeadVerdict) : Type 0 where
  pub many : FIELD_LIMIT < field_lines text → v ≡ Refused HeadTooLarge false
  pub few : field_lines text ≤ FIELD_LIMIT → Judges allowed text v

-- the stream begins with a head that comes to this, and the rest follows it
abbrev pub HeadBy : Allowed → Cut → List ℕ → HeadVerdict → List ℕ → Type 0
HeadBy allowed (Whole n) stream v rest = IsVerdict allowed (take n stream) v × (rest ≡ drop n stream)
HeadBy allowed Waits stream v rest = ⊥
HeadBy allowed TooLong stream v rest = (v ≡ Refused HeadTooLarge false) × (rest ≡ stream)

abbrev pub BeginsWithHead : Allowed → List ℕ → HeadVerdict → List ℕ → Type 0
BeginsWithHead allowed stream v rest = HeadBy allowed (cut head_len stream) stream v rest
