-- What a body is in an encoding: a request, or none, for a cause.
use Rattle.std.specs.Prelude.{◌≡◌, ℕ, Bool, List, Ok, Err}
use Rattle.otlp_types.specs.declared.request.Request.{Request}
use Rattle.otlp_reading.specs.Decoding.{IsRequest, IsNoJson, IsNoRequest}
use Rattle.otlp_protobuf.specs.Reading.{request_of}
use Rattle.otlp_encoding.specs.declared.encoding.Encoding.{Encoding}
use Rattle.otlp_encoding.specs.declared.encoding.Encoding.TheVariants.{Json, Protobuf}
use Rattle.otlp_request.specs.declared.bad_data.BadData.{BadData}
use Rattle.otlp_request.specs.declared.bad_data.BadData.TheVariants as bad

-- the body is this request, where doubles are kept or discarded
abbrev pub Reads : Encoding → (keeps_doubles : Bool) → List ℕ → Request → Type 0
Reads Json keeps_doubles body request = IsRequest keeps_doubles body request
Reads Protobuf keeps_doubles body request = request_of keeps_doubles body ≡ Ok request

-- the body is no request, for this cause
abbrev pub IsRefusedFor : Encoding → (keeps_doubles : Bool) → List ℕ → BadData → Type 0
IsRefusedFor Json keeps_doubles body bad.Json = IsNoJson body
IsRefusedFor Json keeps_doubles body bad.Shape = IsNoRequest keeps_doubles body
IsRefusedFor Json keeps_doubles body (bad.Protobuf fault) = ⊥
IsRefusedFor Protobuf keeps_doubles body bad.Json = ⊥
IsRefusedFor Protobuf keeps_doubles body bad.Shape = ⊥
IsRefusedFor Protobuf keeps_doubles body (bad.Protobuf fault) = request_of keeps_doubles body ≡ Err fault
