-- What a fault is told as.
use Rattle.std.specs.Prelude.{ℕ, List, codes}
use Rattle.span_sink.specs.declared.sink.SinkFault.{SinkFault}
use Rattle.span_sink.specs.declared.sink.SinkFault.TheVariants.{Failed, Down, Refused}

abbrev pub fault_text : SinkFault → List ℕ
fault_text Failed = codes "a write failed"
fault_text Down = codes "a write failed earlier"
fault_text Refused = codes "the line was refused"
