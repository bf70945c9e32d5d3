use Rattle.std.proofs.Common.{◌≡◌, ◌-◌, ◌≤◌, List, []}
use Rattle.tsc_script.proofs.buffer.read_some.Given as goal
use Rattle.tsc_script.specs.Reads.{SourceTurn, bytes_given, Gives, GoOn}
use Rattle.tsc_script.specs.ToRead.{CountsReads}
use Rattle.tsc_script.specs.declared.limits.TheConstants.{MAX_READS}

-- each read was interrupted
abbrev pub invariant-loop-reads : goal.invariant-loop-reads
invariant-loop-reads g l =
    (turns : List SourceTurn) × Gives (g.R.ScriptSource.given l.fn.reader) (g.R.ScriptSource.given l.reader) turns × CountsReads l.fn.reads l.reads turns
    × GoOn turns × (bytes_given turns ≡ []) × (l.reads ≤ MAX_READS)

abbrev pub decreases-loop-reads : goal.decreases-loop-reads
decreases-loop-reads g l = MAX_READS - l.reads
