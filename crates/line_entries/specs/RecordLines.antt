-- The lines of the record: a script's lines of what came.
use Rattle.std.specs.Prelude.{◌≡◌, ℕ, true, List, [], ◌∷◌, ◌++◌, Ok}
use Rattle.otlp_types.specs.declared.request.Request.{Request}
use Rattle.otlp_json.specs.Writing.{canonical_text}
use Rattle.otlp_protobuf.specs.Reading.{request_of}
use Rattle.otlp_encoding.specs.declared.encoding.Encoding.{Encoding}
use Rattle.otlp_encoding.specs.declared.encoding.Encoding.TheVariants.{Json, Protobuf}
use Rattle.script_line.specs.Line.{receive_line, tick_line}
use Rattle.line_entries.specs.declared.came.Came.{Came}
use Rattle.line_entries.specs.declared.came.Came.TheVariants as came
use Rattle.line_entries.specs.declared.came.TakenRequest.{TakenRequest}

-- the JSON of a body: itself, or the canonical text of the request that it is in protobuf
abbrev pub IsJsonOf : Encoding → (body : List ℕ) → (json : List ℕ) → Type 0
IsJsonOf Json body json = json ≡ body
IsJsonOf Protobuf body json = (request : Request) × (request_of true body ≡ Ok request) × (json ≡ canonical_text request)

-- the line of a request on its connection, at its moment, with this JSON, and a line feed
abbrev pub line_with : TakenRequest → (json : List ℕ) → List ℕ
line_with request json = receive_line request.connection request.moment json ++ 10 ∷ []

-- the line of a request
abbrev pub IsRequestLine : TakenRequest → List ℕ → Type 0
IsRequestLine request line = (json : List ℕ) × IsJsonOf request.encoding request.text.items json × (line ≡ line_with request json)

-- the line of what came
abbrev pub IsCameLine : Came → List ℕ → Type 0
IsCameLine (came.Request request) line = IsRequestLine request line
IsCameLine (came.Tick moment) line = line ≡ tick_line moment ++ 10 ∷ []
