use Rattle.std.specs.Prelude.{vec_len}
use Rattle.shared_budget.proofs.AllNodes.{UnitingEach}
use Rattle.shared_budget.proofs.budget.SharedBudget.reunite.Given as goal

abbrev pub invariant-loop-other : goal.invariant-loop-other
invariant-loop-other g l = UnitingEach l.fn.seats.items l.seats.items l.nodes.items

abbrev pub decreases-loop-other : goal.decreases-loop-other
decreases-loop-other g l = vec_len l.seats
