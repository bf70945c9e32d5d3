-- Worked cases of replies, computed.
-- No contract rests on it: it shows the definitions on worked cases.
use Rattle.std.specs.Prelude.{◌≡◌, ℕ, List, [], ◌∷◌, ◌++◌, codes, refl}
use Rattle.std.specs.Fmt.{digits}
use Rattle.protobuf_writer.specs.Writing.{written, message_bytes}
use Rattle.otlp_encoding.specs.declared.encoding.Encoding.TheVariants.{Protobuf}
use Rattle.otlp_request.specs.declared.bad_data.BadData.TheVariants.{Json, Shape}
use Rattle.lane_seq.specs.declared.reply.Reply.TheVariants.{Done, Partial, BadData, Busy}
use Rattle.otlp_reply.specs.declared.putting.TheConstants.{MAX_BODY_LEN}
use Rattle.otlp_reply.specs.Bodies.{status_of, json_body, body_of, message_body}

-- the statuses of replies
statuses : status_of (Done 7) ∷ status_of (Partial 7 2 3) ∷ status_of (BadData Json) ∷ status_of (BadData Shape) ∷ status_of Busy ∷ []
    ≡ 200 ∷ 200 ∷ 400 ∷ 400 ∷ 503 ∷ []
statuses = refl

-- and their bodies
partial_body : json_body (Partial 5000 1002 1003) ≡ codes "{\"partialSuccess\":{\"errorMessage\":\"invalid id: 1002, queue full: 1003\",\"rejectedSpans\":\"2005\"}}"
unfolding digits
partial_body = refl

bodies : json_body (Done 7) ∷ json_body (BadData Json) ∷ json_body (BadData Shape) ∷ json_body Busy ∷ []
    ≡ codes "{}" ∷ codes "{\"message\":\"not JSON\"}" ∷ codes "{\"message\":\"wrong shape\"}" ∷ codes "{\"message\":\"busy\"}" ∷ []
bodies = refl

-- the longest body: of two numbers of 20 digits, and a sum of as many
longest_body : MAX_BODY_LEN ≡ 143
longest_body = refl

-- in protobuf a whole success is empty, and a partial one a message of its number and its text: 300 is ac 02
partial_protobuf : body_of Protobuf (Partial 1000 100 200) ≡ 0x0a ∷ 37 ∷ 0x08 ∷ 0xac ∷ 0x02 ∷ 0x12 ∷ 32 ∷ codes "invalid id: 100, queue full: 200"
unfolding digits written message_bytes
partial_protobuf = refl

whole_protobuf : body_of Protobuf (Done 7) ≡ []
whole_protobuf = refl

-- busy is UNAVAILABLE, 14, and a body that is too large RESOURCE_EXHAUSTED, 8
busy_protobuf : body_of Protobuf Busy ≡ 0x08 ∷ 14 ∷ 0x12 ∷ 4 ∷ codes "busy"
unfolding written message_bytes
busy_protobuf = refl

too_large : message_body Protobuf 413 (codes "body too large") ≡ 0x08 ∷ 8 ∷ 0x12 ∷ 14 ∷ codes "body too large"
unfolding written message_bytes
too_large = refl
