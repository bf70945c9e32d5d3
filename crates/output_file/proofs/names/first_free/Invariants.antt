use Rattle.std.proofs.Common.{◌-◌, ◌<◌, ◌≤◌, ℕ, true}
use Rattle.output_file.specs.Names.{TellsTaken}
use Rattle.output_file.proofs.names.first_free.Given as goal

-- all names so far are taken
abbrev pub invariant-loop-number : goal.invariant-loop-number
invariant-loop-number g l =
    (l.number ≤ l.keep) × ((j : ℕ) → j < l.number → TellsTaken (g.N.OutputNames.names l.names) j true)

abbrev pub decreases-loop-number : goal.decreases-loop-number
decreases-loop-number g l = l.keep - l.number
