-- The requests that are pending, as a script.
use Rattle.std.specs.Prelude.{◌≡◌, ◌⊎◌, ◌<◌, ℕ, suc, true, List, [], ◌∷◌, ◌++◌, length, Err}
use Rattle.otlp_encoding.specs.declared.encoding.Encoding.{Encoding}
use Rattle.otlp_encoding.specs.declared.encoding.Encoding.TheVariants.{Json, Protobuf}
use Rattle.otlp_protobuf.specs.Reading.{request_of}
use Rattle.otlp_protobuf.specs.declared.protobuf_fault.ProtobufFault.{ProtobufFault}
use Rattle.script_line.specs.Line.{receive_line}
use Rattle.line_entries.specs.RecordLines.{IsJsonOf, IsRequestLine}
use Rattle.line_entries.specs.declared.came.TakenRequest.{TakenRequest}

-- a request has no line: its line would be longer than a script's may be, or its body is none in protobuf
abbrev pub IsTooLong : TakenRequest → Type 0
IsTooLong request = (json : List ℕ) × IsJsonOf request.encoding request.text.items json × (4194368 < length (receive_line request.connection request.moment json))

abbrev pub IsUnread : Encoding → (body : List ℕ) → Type 0
IsUnread Json body = ⊥
IsUnread Protobuf body = (fault : ProtobufFault) × (request_of true body ≡ Err fault)

abbrev pub HasNoLine : TakenRequest → Type 0
HasNoLine request = IsTooLong request ⊎ IsUnread request.encoding request.text.items

-- these are the lines of requests, one behind the other, but for so many that have none
abbrev pub IsScript : List TakenRequest → (lines : List ℕ) → (left_out : ℕ) → Type 0
IsScript [] lines left_out = (lines ≡ []) × (left_out ≡ 0)
IsScript (request ∷ more) lines left_out =
    ((line rest : List ℕ) × IsRequestLine request line × (lines ≡ line ++ rest) × IsScript more rest left_out)
    ⊎ (HasNoLine request × ((left : ℕ) × (left_out ≡ suc left) × IsScript more lines left))
