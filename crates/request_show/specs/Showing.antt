-- What is shown of a body.
use Rattle.std.specs.Prelude.{◌≡◌, ℕ, true, List, ◌++◌, codes, decimal, Option, Some, None, Ok, Err, string_bytes}
use Rattle.otlp_types.specs.declared.request.Request.{Request}
use Rattle.otlp_json.specs.Writing.{canonical_text}
use Rattle.otlp_protobuf.specs.declared.protobuf_fault.ProtobufFault.{ProtobufFault}
use Rattle.otlp_protobuf.specs.FaultTexts.{fault_text}
use Rattle.otlp_protobuf.specs.Reading.{request_of}
use Rattle.request_show.specs.FirstFault.{fault_in}
use Rattle.request_show.specs.declared.walk.Met.{Met}
use Rattle.request_show.specs.declared.showing.Shown.{Shown}
use Rattle.request_show.specs.declared.showing.Shown.TheVariants.{Line, Refused}

-- the line of a request
abbrev pub line_of : Request → List ℕ
line_of request = canonical_text request ++ codes "\n"

-- the line of a fault, and where it was met
abbrev pub refusal_of : ProtobufFault → Option Met → List ℕ
refusal_of fault None = codes "tsc: body refused: " ++ (fault_text fault ++ codes "\n")
refusal_of fault (Some met) = codes "tsc: body refused: " ++ (fault_text fault ++ (codes ", in the field at byte " ++ (decimal met.at ++ codes "\n")))

-- the line of the request that a body is read as; or the fault by which it is refused, and where the first fault is met
abbrev pub Shows : (body : List ℕ) → Shown → Type 0
Shows body (Line line) = (request : Request) × (request_of true body ≡ Ok request) × (line.items ≡ line_of request)
Shows body (Refused line) = (fault : ProtobufFault) × (request_of true body ≡ Err fault) × (string_bytes line ≡ refusal_of fault (fault_in body))
