-- What a fault is told as.
use Rattle.std.specs.Prelude.{ℕ, List, codes}
use Rattle.protobuf_wire.specs.FaultTexts as wire
use Rattle.otlp_protobuf.specs.declared.protobuf_fault.ProtobufFault.{ProtobufFault}
use Rattle.otlp_protobuf.specs.declared.protobuf_fault.ProtobufFault.TheVariants.{Wire, Utf8, TooDeep}
use Rattle.otlp_protobuf.specs.declared.decode_error.DecodeError.{DecodeError}
use Rattle.otlp_protobuf.specs.declared.decode_error.DecodeError.TheVariants.{Refused, NoMemory}

abbrev pub fault_text : ProtobufFault → List ℕ
fault_text (Wire e) = wire.fault_text e
fault_text Utf8 = codes "a text is not in UTF-8"
fault_text TooDeep = codes "a value nests more than 29 levels deep"

abbrev pub error_text : DecodeError → List ℕ
error_text (Refused fault) = fault_text fault
error_text NoMemory = codes "no memory"
