-- Replies to requests, as HTTP statuses and bodies (OTLP 1.x, "OTLP/HTTP Response").
use Rattle.std.specs.Prelude.{◌≡◌, ℕ, ◌+◌, ◌-◌, ◌^◌, ◌==◌, min, List, [], ◌++◌, codes, decimal, if◌then◌else◌}
use Rattle.otlp_encoding.specs.declared.encoding.Encoding.{Encoding}
use Rattle.otlp_encoding.specs.declared.encoding.Encoding.TheVariants as encoding
use Rattle.otlp_request.specs.declared.bad_data.BadData.{BadData as Cause}
use Rattle.otlp_request.specs.declared.bad_data.BadData.TheVariants as cause
use Rattle.otlp_protobuf.specs.FaultTexts.{fault_text}
use Rattle.otlp_responses.specs.Writing as protobuf
use Rattle.lane_seq.specs.declared.reply.Reply.{Reply}
use Rattle.lane_seq.specs.declared.reply.Reply.TheVariants.{Done, Partial, BadData, Busy}

-- the HTTP status of a reply
abbrev pub status_of : Reply → ℕ
status_of (Done spans) = 200
status_of (Partial spans invalid full) = 200
status_of (BadData cause) = 400
status_of Busy = 503

-- ---- messages

-- the code of gRPC that goes with a status of HTTP: UNAVAILABLE, DEADLINE_EXCEEDED, RESOURCE_EXHAUSTED or INVALID_ARGUMENT
abbrev pub code_of : (status : ℕ) → ℕ
code_of status = if status == 503 then 14 else (if status == 408 then 4 else (if status == 413 then 8 else 3))

-- why a request wasn't taken: an object with a message, or a `google.rpc.Status`
abbrev pub message_body : Encoding → (status : ℕ) → List ℕ → List ℕ
message_body encoding.Json status message = codes "{\"message\":\"" ++ message ++ codes "\"}"
message_body encoding.Protobuf status message = protobuf.number_and_text (code_of status) message

-- why a body is no request, with the fault of protobuf that was met
abbrev pub cause_in_full : Cause → List ℕ
cause_in_full cause.Json = codes "not JSON"
cause_in_full cause.Shape = codes "wrong shape"
cause_in_full (cause.Protobuf fault) = codes "not protobuf: " ++ fault_text fault

-- ---- partial successes

-- which spans were not taken
abbrev pub rejected_text : (invalid full : ℕ) → List ℕ
rejected_text invalid full = codes "invalid id: " ++ (decimal invalid ++ (codes ", queue full: " ++ decimal full))

-- what a partial success says of the spans that were not taken, in JSON
abbrev pub partial_success : (invalid full : ℕ) → List ℕ
partial_success invalid full =
    codes "{\"partialSuccess\":{\"errorMessage\":\"invalid id: " ++ decimal invalid
    ++ codes ", queue full: " ++ decimal full
    ++ codes "\",\"rejectedSpans\":\"" ++ decimal (invalid + full) ++ codes "\"}}"

-- how many were not taken, as far as `int64` has them
abbrev pub rejected : (invalid full : ℕ) → ℕ
rejected invalid full = min (invalid + full) (2 ^ 63 - 1)

-- ---- bodies

-- the JSON body of a reply
abbrev pub json_body : Reply → List ℕ
json_body (Done spans) = codes "{}"
json_body (Partial spans invalid full) = partial_success invalid full
json_body (BadData cause.Json) = codes "{\"message\":\"not JSON\"}"
json_body (BadData cause.Shape) = codes "{\"message\":\"wrong shape\"}"
json_body (BadData (cause.Protobuf fault)) = codes "{\"message\":\"not protobuf\"}"
json_body Busy = codes "{\"message\":\"busy\"}"

-- the body of a reply in protobuf
abbrev pub protobuf_body : Reply → List ℕ
protobuf_body (Done spans) = []
protobuf_body (Partial spans invalid full) = protobuf.partial_success (rejected invalid full) (rejected_text invalid full)
protobuf_body (BadData cause) = message_body encoding.Protobuf 400 (cause_in_full cause)
protobuf_body Busy = message_body encoding.Protobuf 503 (codes "busy")

-- the body of a reply
abbrev pub body_of : Encoding → Reply → List ℕ
body_of encoding.Json reply = json_body reply
body_of encoding.Protobuf reply = protobuf_body reply
