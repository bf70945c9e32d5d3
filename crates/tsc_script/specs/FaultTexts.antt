-- What a fault is told as.
use Rattle.std.specs.Prelude.{ℕ, List, codes, decimal, ◌++◌}
use Rattle.tsc_script.specs.declared.stop.ScriptStop.{ScriptStop}
use Rattle.tsc_script.specs.declared.stop.ScriptStop.TheVariants.{NoMemory, Refused, Fault, Down}

abbrev pub fault_text : ScriptStop → List ℕ
fault_text NoMemory = codes "no memory"
fault_text (Refused line) = codes "line " ++ decimal line ++ codes " is refused"
fault_text (Fault line) = codes "line " ++ decimal line ++ codes " could not be read"
fault_text Down = codes "a write failed"
