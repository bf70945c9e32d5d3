-- The bytes of an answer.
use Rattle.std.specs.Prelude.{ℕ, Bool, true, false, List, [], ◌++◌, length, if◌then◌else◌, ◌==◌, codes, decimal}
use Rattle.otlp_encoding.specs.declared.encoding.Encoding.{Encoding}
use Rattle.otlp_encoding.specs.declared.encoding.Encoding.TheVariants.{Json}
use Rattle.otlp_encoding.specs.MediaTypes.{media_type}
use Rattle.http_text.specs.declared.request.RequestRefusal.{RequestRefusal}
use Rattle.http_text.specs.declared.request.RequestRefusal.TheVariants.{HeadTooLarge, BadRequest, NotFound, MethodNotAllowed, Forbidden, UnsupportedMediaType, NeitherMediaType, GzipIsOff, UnsupportedCoding, NeitherCoding, BodyTooLarge, NotGzip}
use Rattle.lane_seq.specs.declared.reply.Reply.{Reply}
use Rattle.lane_seq.specs.declared.reply.Reply.TheVariants.{Done, Partial, BadData, Busy}
use Rattle.otlp_reply.specs.Bodies.{status_of, body_of, message_body}
use Rattle.http_answer.specs.declared.response.Response.{Response}
use Rattle.http_answer.specs.declared.response.Response.TheVariants.{Continue, Refused, CloseAsked, Starved, Stopping, TimedOut, Replied}

-- the status line without the version, the field that names the codings that are taken, and the body with its media type
pub record AnswerRow : Type 0 where
  pub status : ℕ
  pub reason : List ℕ
  pub accept : List ℕ
  pub media : List ℕ
  pub body : List ℕ

-- an answer with such a field
abbrev pub row_naming : List ℕ → Encoding → ℕ → List ℕ → List ℕ → AnswerRow
row_naming accept encoding status reason body = record { status = status; reason = reason; accept = accept; media = media_type encoding; body = body }

abbrev pub row : Encoding → ℕ → List ℕ → List ℕ → AnswerRow
row encoding status reason body = row_naming [] encoding status reason body

-- an answer that says why a request wasn't taken
abbrev pub told_row_naming : List ℕ → Encoding → ℕ → List ℕ → List ℕ → AnswerRow
told_row_naming accept encoding status reason message = row_naming accept encoding status reason (message_body encoding status message)

abbrev pub told_row : Encoding → ℕ → List ℕ → List ℕ → AnswerRow
told_row encoding status reason message = told_row_naming [] encoding status reason message

-- where a coding was the cause: what would be taken (RFC 9110, sections 12.5.3 and 15.5.16)
abbrev pub identity_taken : List ℕ
identity_taken = codes "Accept-Encoding: identity\r\n"

abbrev pub gzip_taken : List ℕ
gzip_taken = codes "Accept-Encoding: gzip, identity\r\n"

abbrev pub unsupported_row : List ℕ → Encoding → List ℕ → AnswerRow
unsupported_row accept encoding message = told_row_naming accept encoding 415 (codes "Unsupported Media Type") message

abbrev pub refusal_row : Encoding → RequestRefusal → AnswerRow
refusal_row encoding HeadTooLarge = told_row encoding 431 (codes "Request Header Fields Too Large") (codes "head too large")
refusal_row encoding BadRequest = told_row encoding 400 (codes "Bad Request") (codes "bad request")
refusal_row encoding NotFound = told_row encoding 404 (codes "Not Found") (codes "not found")
refusal_row encoding MethodNotAllowed = told_row encoding 405 (codes "Method Not Allowed") (codes "method not allowed")
refusal_row encoding Forbidden = told_row encoding 403 (codes "Forbidden") (codes "forbidden")
refusal_row encoding UnsupportedMediaType = unsupported_row [] encoding (codes "unsupported media type: application/json is wanted")
refusal_row encoding NeitherMediaType = unsupported_row [] encoding (codes "unsupported media type: application/json or application/x-protobuf is wanted")
refusal_row encoding GzipIsOff = unsupported_row identity_taken encoding (codes "unsupported content encoding: gzip is off (accept_gzip)")
refusal_row encoding UnsupportedCoding = unsupported_row identity_taken encoding (codes "unsupported content encoding: identity is wanted, or gzip with accept_gzip")
refusal_row encoding NeitherCoding = unsupported_row gzip_taken encoding (codes "unsupported content encoding: identity is wanted, or gzip with accept_gzip")
refusal_row encoding NotGzip = told_row encoding 400 (codes "Bad Request") (codes "not gzip")
refusal_row encoding BodyTooLarge = told_row encoding 413 (codes "Content Too Large") (codes "body too large")

abbrev pub busy_row : Encoding → AnswerRow
busy_row encoding = told_row encoding 503 (codes "Service Unavailable") (codes "busy")

abbrev pub closing_row : Encoding → AnswerRow
closing_row encoding = told_row encoding 503 (codes "Service Unavailable") (codes "closing")

abbrev pub timeout_row : Encoding → AnswerRow
timeout_row encoding = told_row encoding 408 (codes "Request Timeout") (codes "request timeout")

abbrev pub done_row : AnswerRow
done_row = row Json 200 (codes "OK") (codes "{}")

-- the reason phrase of a reply's status
abbrev pub reason_of : Reply → List ℕ
reason_of (Done spans) = codes "OK"
reason_of (Partial spans invalid full) = codes "OK"
reason_of (BadData cause) = codes "Bad Request"
reason_of Busy = codes "Service Unavailable"

abbrev pub reply_row : Encoding → Reply → AnswerRow
reply_row encoding reply = row encoding (status_of reply) (reason_of reply) (body_of encoding reply)

abbrev pub optional : Bool → List ℕ → List ℕ
optional present text = if present then text else []

-- the field that tells a client what to do otherwise: which method is allowed, when to come again, or what is taken
abbrev pub own_field : (status : ℕ) (accept : List ℕ) → List ℕ
own_field status accept =
    if status == 405 then codes "Allow: POST\r\n" else (if status == 503 then codes "Retry-After: 1\r\n" else accept)

-- the head of an answer from its parts, and what is behind it
abbrev pub joined_text : (status : ℕ) (reason media : List ℕ) (len : ℕ) (own close sent : List ℕ) → List ℕ
joined_text status reason media len own close sent =
    codes "HTTP/1.1 " ++ (decimal status ++ (codes " " ++ (reason
    ++ (codes "\r\nContent-Type: " ++ (media ++ (codes "\r\nContent-Length: " ++ (decimal len ++ (codes "\r\n"
    ++ (own ++ (close ++ (codes "\r\n" ++ sent)))))))))))

-- the head of an answer with a body of so many bytes
abbrev pub head_text : AnswerRow → Bool → List ℕ
head_text r closes = joined_text r.status r.reason r.media (length r.body)
    (own_field r.status r.accept) (optional closes (codes "Connection: close\r\n")) []

-- the whole answer; the answer to `HEAD` has no body
abbrev pub answer_text : AnswerRow → Bool → Bool → List ℕ
answer_text r closes is_head = if is_head then head_text r closes else head_text r closes ++ r.body

-- the interim line
abbrev pub continue_text : List ℕ
continue_text = codes "HTTP/1.1 100 Continue\r\n\r\n"

-- the status of what is answered
abbrev pub status_of_answer : Response → ℕ
status_of_answer Continue = 100
status_of_answer (Refused r is_head) = (refusal_row Json r).status
status_of_answer CloseAsked = done_row.status
status_of_answer Starved = (busy_row Json).status
status_of_answer Stopping = (closing_row Json).status
status_of_answer TimedOut = (timeout_row Json).status
status_of_answer (Replied reply closes) = (reply_row Json reply).status

-- the bytes of what is answered
abbrev pub text_of_answer : Encoding → Response → List ℕ
text_of_answer encoding Continue = continue_text
text_of_answer encoding (Refused r is_head) = answer_text (refusal_row encoding r) true is_head
text_of_answer encoding CloseAsked = answer_text done_row true false
text_of_answer encoding Starved = answer_text (busy_row encoding) true false
text_of_answer encoding Stopping = answer_text (closing_row encoding) true false
text_of_answer encoding TimedOut = answer_text (timeout_row encoding) true false
text_of_answer encoding (Replied reply closes) = answer_text (reply_row encoding reply) closes false
