-- What a fault is told as.
use Rattle.std.specs.Prelude.{ℕ, List, codes}
use Rattle.otlp_reading.specs.declared.decode_error.DecodeError.{DecodeError}
use Rattle.otlp_reading.specs.declared.decode_error.DecodeError.TheVariants.{Json, Shape, NoMemory}

abbrev pub fault_text : DecodeError → List ℕ
fault_text Json = codes "the bytes are no JSON in UTF-8 that nests at most 127 deep"
fault_text Shape = codes "a field has another shape than its kind"
fault_text NoMemory = codes "no memory"
