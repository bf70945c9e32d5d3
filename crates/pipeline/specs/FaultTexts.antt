-- What a fault is told as.
use Rattle.std.specs.Prelude.{ℕ, List, codes}
use Rattle.pipeline.specs.declared.fault.ServeFault.{ServeFault}
use Rattle.pipeline.specs.declared.fault.ServeFault.TheVariants.{NoMemory, CounterOverflow, SinkDown}

abbrev pub fault_text : ServeFault → List ℕ
fault_text NoMemory = codes "no memory, no random source or no thread at the start"
fault_text CounterOverflow = codes "a count would pass 2^64-1"
fault_text (SinkDown report) = codes "a write failed"
