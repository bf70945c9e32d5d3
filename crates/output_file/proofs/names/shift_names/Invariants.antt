use Rattle.output_file.proofs.Shifts.{IsGoing}
use Rattle.output_file.proofs.names.shift_names.Given as goal

abbrev pub invariant-loop-number : goal.invariant-loop-number
invariant-loop-number g l = IsGoing l.keep (g.N.OutputNames.names l.fn.names) l.number (g.N.OutputNames.names l.names)

abbrev pub decreases-loop-number : goal.decreases-loop-number
decreases-loop-number g l = l.number
