-- What a fault is told as.
use Rattle.std.specs.Prelude.{ℕ, List, codes, decimal, ◌++◌}
use Rattle.script_session.specs.declared.fault.ReplayFault.{ReplayFault}
use Rattle.script_session.specs.declared.fault.ReplayFault.TheVariants.{NoMemory, Refused, Fault, CounterOverflow, SinkDown}

abbrev pub fault_text : ReplayFault → List ℕ
fault_text NoMemory = codes "no memory at the start"
fault_text (Refused line) = codes "line " ++ decimal line ++ codes " is refused"
fault_text (Fault line) = codes "line " ++ decimal line ++ codes " could not be read"
fault_text CounterOverflow = codes "a count would pass 2^64-1"
fault_text (SinkDown report) = codes "a write failed"
