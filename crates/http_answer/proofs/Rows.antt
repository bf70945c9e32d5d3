-- Worked rows, computed: the bytes of answers, which `text_of` promises.
use Rattle.std.proofs.Common.{◌≡◌, ◌++◌, true, false, refl, List, ℕ, ◌∷◌}
use Rattle.std.specs.Prelude.{codes}
use Rattle.lane_seq.specs.declared.reply.Reply.TheVariants.{Done, Partial, BadData}
use Rattle.otlp_encoding.specs.declared.encoding.Encoding.TheVariants as encoding
use Rattle.protobuf_writer.specs.Writing.{written, message_bytes}
use Rattle.otlp_request.specs.declared.bad_data.BadData.TheVariants.{Json, Shape}
use Rattle.http_text.specs.declared.request.RequestRefusal.TheVariants.{HeadTooLarge, BadRequest, NotFound, MethodNotAllowed, Forbidden, UnsupportedMediaType, GzipIsOff, UnsupportedCoding, NeitherCoding, BodyTooLarge, NotGzip}
use Rattle.http_answer.specs.Answer.{answer_text, reply_row, refusal_row, done_row, busy_row, closing_row, timeout_row, continue_text}
use Rattle.std.specs.Fmt.{digits}
use Rattle.httparse.specs.Ascii.{crlf_bytes}

abbrev line : List ℕ → List ℕ
line text = text ++ crlf_bytes

-- `POST /v1/traces` with `{}` is answered so
done_answer : answer_text (reply_row encoding.Json (Done 0)) false false ≡ line (codes "HTTP/1.1 200 OK") ++ line (codes "Content-Type: application/json") ++ line (codes "Content-Length: 2") ++ crlf_bytes ++ codes "{}"
unfolding digits
done_answer = refl

-- `GET /v1/traces` is answered so
get_answer : answer_text (refusal_row encoding.Json MethodNotAllowed) true false ≡ line (codes "HTTP/1.1 405 Method Not Allowed") ++ line (codes "Content-Type: application/json") ++ line (codes "Content-Length: 32") ++ line (codes "Allow: POST") ++ line (codes "Connection: close") ++ crlf_bytes ++ codes "{\"message\":\"method not allowed\"}"
unfolding digits
get_answer = refl

-- a request for whose spans no memory is found is answered so
busy_answer : answer_text (busy_row encoding.Json) false false ≡ line (codes "HTTP/1.1 503 Service Unavailable") ++ line (codes "Content-Type: application/json") ++ line (codes "Content-Length: 18") ++ line (codes "Retry-After: 1") ++ crlf_bytes ++ codes "{\"message\":\"busy\"}"
unfolding digits
busy_answer = refl

-- a client that goes quiet in the middle of a request is answered so
timeout_answer : answer_text (timeout_row encoding.Json) true false ≡ line (codes "HTTP/1.1 408 Request Timeout") ++ line (codes "Content-Type: application/json") ++ line (codes "Content-Length: 29") ++ line (codes "Connection: close") ++ crlf_bytes ++ codes "{\"message\":\"request timeout\"}"
unfolding digits
timeout_answer = refl

-- a request to close that a page of another site may have sent is answered so
forbidden_answer : answer_text (refusal_row encoding.Json Forbidden) true false
    ≡ line (codes "HTTP/1.1 403 Forbidden") ++ line (codes "Content-Type: application/json")
    ++ line (codes "Content-Length: 23") ++ line (codes "Connection: close") ++ crlf_bytes
    ++ codes "{\"message\":\"forbidden\"}"
unfolding digits
forbidden_answer = refl

-- a media type that isn't taken is answered so
media_answer : answer_text (refusal_row encoding.Json UnsupportedMediaType) true false
    ≡ line (codes "HTTP/1.1 415 Unsupported Media Type") ++ line (codes "Content-Type: application/json")
    ++ line (codes "Content-Length: 64") ++ line (codes "Connection: close") ++ crlf_bytes
    ++ codes "{\"message\":\"unsupported media type: application/json is wanted\"}"
unfolding digits
media_answer = refl

-- and a coding that isn't taken so, with the codings that are
gzip_answer : answer_text (refusal_row encoding.Json GzipIsOff) true false
    ≡ line (codes "HTTP/1.1 415 Unsupported Media Type") ++ line (codes "Content-Type: application/json")
    ++ line (codes "Content-Length: 69") ++ line (codes "Accept-Encoding: identity") ++ line (codes "Connection: close") ++ crlf_bytes
    ++ codes "{\"message\":\"unsupported content encoding: gzip is off (accept_gzip)\"}"
unfolding digits
gzip_answer = refl

coding_answer : answer_text (refusal_row encoding.Json UnsupportedCoding) true false
    ≡ line (codes "HTTP/1.1 415 Unsupported Media Type") ++ line (codes "Content-Type: application/json")
    ++ line (codes "Content-Length: 88") ++ line (codes "Accept-Encoding: identity") ++ line (codes "Connection: close") ++ crlf_bytes
    ++ codes "{\"message\":\"unsupported content encoding: identity is wanted, or gzip with accept_gzip\"}"
unfolding digits
coding_answer = refl

-- where gzip is taken, too
other_coding_answer : answer_text (refusal_row encoding.Json NeitherCoding) true false
    ≡ line (codes "HTTP/1.1 415 Unsupported Media Type") ++ line (codes "Content-Type: application/json")
    ++ line (codes "Content-Length: 88") ++ line (codes "Accept-Encoding: gzip, identity") ++ line (codes "Connection: close") ++ crlf_bytes
    ++ codes "{\"message\":\"unsupported content encoding: identity is wanted, or gzip with accept_gzip\"}"
unfolding digits
other_coding_answer = refl

large_body_answer : answer_text (refusal_row encoding.Json BodyTooLarge) true false
    ≡ line (codes "HTTP/1.1 413 Content Too Large") ++ line (codes "Content-Type: application/json")
    ++ line (codes "Content-Length: 28") ++ line (codes "Connection: close") ++ crlf_bytes
    ++ codes "{\"message\":\"body too large\"}"
unfolding digits
large_body_answer = refl

not_gzip_answer : answer_text (refusal_row encoding.Json NotGzip) true false
    ≡ line (codes "HTTP/1.1 400 Bad Request") ++ line (codes "Content-Type: application/json")
    ++ line (codes "Content-Length: 22") ++ line (codes "Connection: close") ++ crlf_bytes
    ++ codes "{\"message\":\"not gzip\"}"
unfolding digits
not_gzip_answer = refl

large_head_answer : answer_text (refusal_row encoding.Json HeadTooLarge) true false
    ≡ line (codes "HTTP/1.1 431 Request Header Fields Too Large") ++ line (codes "Content-Type: application/json")
    ++ line (codes "Content-Length: 28") ++ line (codes "Connection: close") ++ crlf_bytes
    ++ codes "{\"message\":\"head too large\"}"
unfolding digits
large_head_answer = refl

bad_answer : answer_text (refusal_row encoding.Json BadRequest) true false
    ≡ line (codes "HTTP/1.1 400 Bad Request") ++ line (codes "Content-Type: application/json")
    ++ line (codes "Content-Length: 25") ++ line (codes "Connection: close") ++ crlf_bytes
    ++ codes "{\"message\":\"bad request\"}"
unfolding digits
bad_answer = refl

-- the answer to `HEAD` tells the length of the body that it doesn't have
unfound_head_answer : answer_text (refusal_row encoding.Json NotFound) true true
    ≡ line (codes "HTTP/1.1 404 Not Found") ++ line (codes "Content-Type: application/json")
    ++ line (codes "Content-Length: 23") ++ line (codes "Connection: close") ++ crlf_bytes
unfolding digits
unfound_head_answer = refl

unfound_answer : answer_text (refusal_row encoding.Json NotFound) true false
    ≡ answer_text (refusal_row encoding.Json NotFound) true true ++ codes "{\"message\":\"not found\"}"
unfolding digits
unfound_answer = refl

-- a body that comes where the stop mark is set is answered so
closing_answer : answer_text (closing_row encoding.Json) true false
    ≡ line (codes "HTTP/1.1 503 Service Unavailable") ++ line (codes "Content-Type: application/json")
    ++ line (codes "Content-Length: 21") ++ line (codes "Retry-After: 1") ++ line (codes "Connection: close") ++ crlf_bytes
    ++ codes "{\"message\":\"closing\"}"
unfolding digits
closing_answer = refl

close_answer : answer_text done_row true false
    ≡ line (codes "HTTP/1.1 200 OK") ++ line (codes "Content-Type: application/json") ++ line (codes "Content-Length: 2")
    ++ line (codes "Connection: close") ++ crlf_bytes ++ codes "{}"
unfolding digits
close_answer = refl

-- replies to bodies
partial_answer : answer_text (reply_row encoding.Json (Partial 5000 1002 1003)) false false
    ≡ line (codes "HTTP/1.1 200 OK") ++ line (codes "Content-Type: application/json") ++ line (codes "Content-Length: 95")
    ++ crlf_bytes ++ codes "{\"partialSuccess\":{\"errorMessage\":\"invalid id: 1002, queue full: 1003\",\"rejectedSpans\":\"2005\"}}"
unfolding digits
partial_answer = refl

not_json_answer : answer_text (reply_row encoding.Json (BadData Json)) false false
    ≡ line (codes "HTTP/1.1 400 Bad Request") ++ line (codes "Content-Type: application/json")
    ++ line (codes "Content-Length: 22") ++ crlf_bytes ++ codes "{\"message\":\"not JSON\"}"
unfolding digits
not_json_answer = refl

wrong_shape_answer : answer_text (reply_row encoding.Json (BadData Shape)) true false
    ≡ line (codes "HTTP/1.1 400 Bad Request") ++ line (codes "Content-Type: application/json")
    ++ line (codes "Content-Length: 25") ++ line (codes "Connection: close") ++ crlf_bytes
    ++ codes "{\"message\":\"wrong shape\"}"
unfolding digits
wrong_shape_answer = refl

interim_line : continue_text ≡ line (codes "HTTP/1.1 100 Continue") ++ crlf_bytes
interim_line = refl

-- a request in protobuf is answered in protobuf: of a whole success there is nothing to say, and busy is UNAVAILABLE
whole_in_protobuf : answer_text (reply_row encoding.Protobuf (Done 3)) false false
    ≡ line (codes "HTTP/1.1 200 OK") ++ line (codes "Content-Type: application/x-protobuf") ++ line (codes "Content-Length: 0") ++ crlf_bytes
unfolding digits
whole_in_protobuf = refl

busy_in_protobuf : answer_text (busy_row encoding.Protobuf) true false
    ≡ line (codes "HTTP/1.1 503 Service Unavailable") ++ line (codes "Content-Type: application/x-protobuf") ++ line (codes "Content-Length: 8")
    ++ line (codes "Retry-After: 1") ++ line (codes "Connection: close") ++ crlf_bytes ++ (0x08 ∷ 14 ∷ 0x12 ∷ 4 ∷ codes "busy")
unfolding digits written message_bytes
busy_in_protobuf = refl
