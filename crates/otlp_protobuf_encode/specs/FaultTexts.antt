-- What an error is told as.
use Rattle.std.specs.Prelude.{ℕ, List, codes}
use Rattle.otlp_protobuf_encode.specs.declared.encode_error.EncodeError.{EncodeError}
use Rattle.otlp_protobuf_encode.specs.declared.encode_error.EncodeError.TheVariants.{NotBase64, NotHex, NoMemory}

abbrev pub fault_text : EncodeError → List ℕ
fault_text NotBase64 = codes "a value of bytes is no base64 text"
fault_text NotHex = codes "an id of a link is no text of hex digits"
fault_text NoMemory = codes "no memory"
