-- The media types of the encodings (OTLP 1.x, "OTLP/HTTP").
use Rattle.std.specs.Prelude.{ℕ, List, codes}
use Rattle.otlp_encoding.specs.declared.encoding.Encoding.{Encoding}
use Rattle.otlp_encoding.specs.declared.encoding.Encoding.TheVariants.{Json, Protobuf}

abbrev pub media_type : Encoding → List ℕ
media_type Json = codes "application/json"
media_type Protobuf = codes "application/x-protobuf"
