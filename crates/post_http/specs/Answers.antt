-- What bytes hold that came behind a request, by `http1`'s client.
use Rattle.std.specs.Prelude.{◌≡◌, ℕ, ◌≤◌, List, [], ◌∷◌, ◌++◌, length, map, drop, true, Option, IsFalse}
use Rattle.http1.specs.declared.client.Client.{Client}
use Rattle.http1.specs.declared.conn.Limits.{Limits}
use Rattle.http1.specs.declared.framing.MethodKind.{MethodKind}
use Rattle.http1.specs.Client.{new_client, is_interim}
use Rattle.http1.specs.ClientTrace.{Seen, SeenResponse, Trace}
use Rattle.post_http.specs.declared.answer.BackendResponse.{BackendResponse}
use Rattle.post_http.specs.declared.answer.FoundResponse.{FoundResponse}
use Rattle.post_http.specs.declared.answer.FoundResponse.TheVariants.{Whole, More, Broken}
use Rattle.post_http.specs.declared.reading.Headed.{Headed}
use Rattle.post_http.specs.declared.reading.Heads.{Heads}
use Rattle.post_http.specs.declared.reading.Heads.TheVariants.{Final, More as NoHead, Broken as BadHead, TooMany}
use Rattle.post_http.specs.declared.reading.TheConstants.{INTERIM_LIMIT}
use Rattle.post_http.specs.Waits.{wait_in}

-- what an answer may take at most
abbrev pub limits : Limits
limits = record { max_head_len = 65536; max_extensions_len = 16384; max_trailers_len = 16384 }

-- what the second client sees, the first one sees
abbrev pub LeadsTo : Client → Client → Type 0
LeadsTo a b = (stream : List ℕ) (seen : Seen) (rest : List ℕ) → Trace b stream seen rest → Trace a stream seen rest

-- a client that reads these bytes sees responses of which the last is this one, which is final (RFC 9110, section 15)
pub record HasLastResponse (bytes : List ℕ) (last : SeenResponse) : Type 0 where
  pub seen : Seen
  pub rest : List ℕ
  pub trace : Trace (new_client limits) bytes seen rest
  pub before : List SeenResponse
  pub are : seen.responses ≡ before ++ last ∷ []
  pub is_final : IsFalse (is_interim last.status)

-- what an answer tells of a response
pub record Tells (last : SeenResponse) (a : BackendResponse) : Type 0 where
  pub status : a.status ≡ last.status
  pub retry_after : a.retry_after ≡ wait_in last.headers
  pub body : a.body.items ≡ last.body.bytes

-- the bytes hold this answer
abbrev pub IsAnswerIn : (bytes : List ℕ) → BackendResponse → Type 0
IsAnswerIn bytes a = (last : SeenResponse) × HasLastResponse bytes last × Tells last a

-- what was found in the bytes
abbrev pub IsFoundIn : (bytes : List ℕ) → FoundResponse → Type 0
IsFoundIn bytes (Whole a) = IsAnswerIn bytes a
IsFoundIn bytes More = Unit {0}
IsFoundIn bytes Broken = Unit {0}

-- ---- on the way there

-- what this client sees in the rest of the bytes stands behind so many responses that were seen before
abbrev pub SeesBehind : (count : ℕ) → (bytes : List ℕ) → Client → (left : List ℕ) → Type 0
SeesBehind count bytes client left =
    (later : Seen) (rest : List ℕ) → Trace client left later rest
    → (seen : Seen) × (before : List SeenResponse) × Trace (new_client limits) bytes seen rest × (seen.responses ≡ before ++ later.responses) × (length before ≡ count)

-- more interim heads than may be: as many were read as heads may stand in front of a body, and the bytes go on behind
-- them
abbrev pub HasTooManyHeads : (bytes : List ℕ) → Type 0
HasTooManyHeads bytes = (client : Client) × (left : List ℕ) × SeesBehind INTERIM_LIMIT bytes client left

-- what is seen later, with bytes of the body in front
abbrev pub with_body : (so_far : List ℕ) → Seen → Seen
with_body so_far later = record later { body = record (later.body) { bytes = so_far ++ later.body.bytes } }

-- what a client sees in these bytes is what this one sees in the rest, with bytes of the body in front
abbrev pub SeesBody : (start : Client) → (bytes : List ℕ) → (so_far : List ℕ) → Client → (left : List ℕ) → Type 0
SeesBody start bytes so_far client left = (later : Seen) (rest : List ℕ) → Trace client left later rest → Trace start bytes (with_body so_far later) rest

-- what a client sees behind the head of a response that has this status and these fields: its body, and no other
-- response
abbrev pub Behind : (client : Client) → (bytes : List ℕ) → (status : ℕ) → (wait : Option ℕ) → (left : List ℕ) → Type 0
Behind client bytes status wait left =
    (later : Seen) (rest : List ℕ) → later.responses ≡ [] → Trace client left later rest
    → (last : SeenResponse) × HasLastResponse bytes last × (last.status ≡ status) × (wait ≡ wait_in last.headers) × (last.body ≡ later.body)

-- the head of a final answer ends at this byte
abbrev pub IsHeaded : (bytes : List ℕ) → Headed → Type 0
IsHeaded bytes h = (h.at ≤ length bytes) × Behind h.client bytes h.status h.retry_after (drop h.at bytes)

-- what stands at the front
abbrev pub HeadsIn : (bytes : List ℕ) → Heads → Type 0
HeadsIn bytes (Final h) = IsHeaded bytes h
HeadsIn bytes NoHead = Unit {0}
HeadsIn bytes BadHead = Unit {0}
HeadsIn bytes TooMany = HasTooManyHeads bytes

-- what was found behind a head; the connection is kept only where nothing came behind the answer
abbrev pub BodyIn : Headed → (bytes : List ℕ) → FoundResponse → Type 0
BodyIn h bytes (Whole a) =
    (later : Seen) × (rest : List ℕ) × Trace h.client (drop h.at bytes) later rest × (later.responses ≡ [])
    × (a.body.items ≡ later.body.bytes) × (a.status ≡ h.status) × (a.retry_after ≡ h.retry_after) × (a.keeps ≡ true → rest ≡ [])
BodyIn h bytes More = Unit {0}
BodyIn h bytes Broken = Unit {0}

-- ---- a law

-- the methods that responses answer
abbrev pub methods : List SeenResponse → List MethodKind
methods responses = map (λ (s : SeenResponse). s.method) responses

-- the same bytes, read to as many responses, hold the same answer
abbrev pub AnswersAgree : Type 0
AnswersAgree =
    (bytes : List ℕ) (x y : SeenResponse) (a : HasLastResponse bytes x) (b : HasLastResponse bytes y)
    → methods a.seen.responses ≡ methods b.seen.responses → x ≡ y
