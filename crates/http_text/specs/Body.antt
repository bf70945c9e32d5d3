-- The body of a request (RFC 9112, sections 6 and 7.1), by the grammar of `httparse` for chunk lines and trailers.
use Rattle.std.specs.Prelude.{◌≡◌, ℕ, ◌+◌, ◌<◌, ◌≤◌, ◌⊎◌, Bool, false, ◌&&◌, List, [], ◌∷◌, ◌++◌, length, take, drop, flat_map, if◌then◌else◌, nat_le, ◌==◌}
use Rattle.httparse.specs.Ascii.{line_feed, carriage_return, crlf_bytes}
use Rattle.httparse.specs.Grammar.{LineEnd, Field, ChunkLine, ReadsChunkLine, chunk_size, ReadsSection}
use Rattle.http_text.specs.Lines.{Cut, Whole, Waits, TooLong}
use Rattle.http_text.specs.declared.request.TheConstants.{FIELD_LIMIT}
use Rattle.http_text.specs.declared.request.Framing.{Framing}
use Rattle.http_text.specs.declared.request.Framing.TheVariants.{Length, Chunked}
use Rattle.http_text.specs.declared.request.RequestRefusal.{RequestRefusal}
use Rattle.http_text.specs.declared.request.RequestRefusal.TheVariants.{BadRequest, BodyTooLarge}
use Rattle.http_text.specs.Lines.{line_len, trailer_len, cut}

-- what stands at the front of the bytes behind a head: more is to come, or a refusal, or a whole body and what follows
-- it
pub data FoundBody : Type 0 where
  waits : FoundBody
  refuses : RequestRefusal → FoundBody
  found : List ℕ → List ℕ → FoundBody

-- the same with more of the body in front
abbrev pub with_front : List ℕ → FoundBody → FoundBody
with_front front waits = waits
with_front front (refuses r) = refuses r
with_front front (found body rest) = found (front ++ body) rest

-- the whole line gives this size
abbrev pub GivesSize : List ℕ → ℕ → Type 0
GivesSize line size = (l : ChunkLine) × ReadsChunkLine line l [] × (size ≡ chunk_size l)

abbrev pub GivesNoSize : List ℕ → Type 0
GivesNoSize line = (l : ChunkLine) → ¬ (ReadsChunkLine line l [])

-- the whole text is a trailer section, within the limit
abbrev pub IsTrailer : List ℕ → Type 0
IsTrailer text = (fields : List Field) × (last : LineEnd) × ReadsSection text fields last [] × (length fields ≤ FIELD_LIMIT)

-- 1*CHUNK: the bytes are these chunks with data, and then `after`
abbrev pub Chunks : List ℕ → List (List ℕ) → List ℕ → Type 0
Chunks bytes [] after = bytes ≡ after
Chunks bytes (piece ∷ pieces) after =
    (n : ℕ) × (cut line_len bytes ≡ Whole n) × (0 < length piece) × GivesSize (take n bytes) (length piece)
    × (rest : List ℕ) × (drop n bytes ≡ piece ++ (crlf_bytes ++ rest)) × Chunks rest pieces after

-- behind the last chunk's line stands the trailer
abbrev pub AtTrailerBy : Cut → List ℕ → FoundBody → Type 0
AtTrailerBy Waits bytes f = f ≡ waits
AtTrailerBy TooLong bytes f = f ≡ refuses BadRequest
AtTrailerBy (Whole n) bytes f =
    (IsTrailer (take n bytes) × (f ≡ found [] (drop n bytes))) ⊎ (¬ (IsTrailer (take n bytes)) × (f ≡ refuses BadRequest))

-- the two bytes behind a chunk's data, where they aren't CRLF
abbrev pub behind_data : List ℕ → FoundBody
behind_data [] = waits
behind_data (a ∷ []) = waits
behind_data (a ∷ b ∷ bytes) = refuses BadRequest

abbrev pub begins_crlf : List ℕ → Bool
begins_crlf [] = false
begins_crlf (a ∷ []) = false
begins_crlf (a ∷ b ∷ bytes) = (a == carriage_return) && (b == line_feed)

-- the data of a chunk of this size hasn't come whole, or CRLF doesn't follow it
pub record IsCutChunk (size : ℕ) (bytes : List ℕ) (f : FoundBody) : Type 0 where
  pub short : length bytes < size → f ≡ waits
  pub long : size ≤ length bytes → (begins_crlf (drop size bytes) ≡ false) × (f ≡ behind_data (drop size bytes))

-- a line of size 0 is the last; the others add up
pub record BySize (limit total size : ℕ) (bytes : List ℕ) (f : FoundBody) : Type 0 where
  pub last : size ≡ 0 → AtTrailerBy (cut trailer_len bytes) bytes f
  pub large : 0 < size → limit < total + size → f ≡ refuses BodyTooLarge
  pub cut : 0 < size → total + size ≤ limit → IsCutChunk size bytes f

-- where the chunks stop that have come whole, `total` bytes
abbrev pub StopsBy : (limit : ℕ) → Cut → ℕ → List ℕ → FoundBody → Type 0
StopsBy limit Waits total bytes f = f ≡ waits
StopsBy limit TooLong total bytes f = f ≡ refuses BadRequest
StopsBy limit (Whole n) total bytes f =
    ((size : ℕ) × GivesSize (take n bytes) size × BySize limit total size (drop n bytes) f)
    ⊎ (GivesNoSize (take n bytes) × (f ≡ refuses BadRequest))

abbrev pub content : List (List ℕ) → List ℕ
content pieces = flat_map (λ (piece : List ℕ). piece) pieces

-- chunked-body = *chunk last-chunk trailer-section CRLF
pub record ChunkedBody (limit : ℕ) (bytes : List ℕ) (f : FoundBody) : Type 0 where
  pub pieces : List (List ℕ)
  pub after : List ℕ
  pub chunks : Chunks bytes pieces after
  pub within : length (content pieces) ≤ limit
  pub end : FoundBody
  pub stops : StopsBy limit (cut line_len after) (length (content pieces)) after end
  pub is : f ≡ with_front (content pieces) end

abbrev pub sized_body : ℕ → List ℕ → FoundBody
sized_body len bytes = if nat_le len (length bytes) then found (take len bytes) (drop len bytes) else waits

-- what stands behind a head with this framing, where a body may have so many bytes
abbrev pub BodyIs : (limit : ℕ) → Framing → List ℕ → FoundBody → Type 0
BodyIs limit (Length len) bytes f = f ≡ sized_body len bytes
BodyIs limit Chunked bytes f = ChunkedBody limit bytes f
