-- A request in both encodings: read again each is the same request, under the conditions of both.
use Rattle.std.specs.Prelude.{◌≡◌, ℕ, List, true, Some, Ok}
use Rattle.otlp_types.specs.declared.request.Request.{Request}
use Rattle.otlp_reading.specs.Decoding.{IsJson}
use Rattle.otlp_reading.specs.Reading as json
use Rattle.otlp_json.specs.Writing.{data_of}
use Rattle.otlp_protobuf.specs.Values.{most_levels}
use Rattle.otlp_protobuf.specs.Nesting.{RequestNests}
use Rattle.otlp_protobuf.specs.Reading as protobuf
use Rattle.otlp_protobuf_encode.specs.ReadsBack.{IdsAreRead}

-- the text and the bytes are both read as the request, where doubles are kept
abbrev pub ReadAlike : (text bytes : List ℕ) → Request → Type 0
ReadAlike text bytes r = IsJson text (data_of r) × (json.request_of true (data_of r) ≡ Some r) × (protobuf.request_of true bytes ≡ Ok r)

-- the conditions are those of protobuf, that values nest at most 29 levels deep and ids are ids: such JSON nests at most
-- 127 deep
abbrev pub Agree : (text bytes : List ℕ) → Request → Type 0
Agree text bytes r = RequestNests most_levels r → IdsAreRead r → ReadAlike text bytes r
