use Rattle.std.specs.Prelude.{◌≡◌, length}
use Rattle.shared_budget.specs.Budget.{AreOfOneBudget}
use Rattle.parts_tests.proofs.tests.seats.seconds_grant.Given as goal

abbrev pub invariant-loop-second : goal.invariant-loop-second
invariant-loop-second g l = AreOfOneBudget l.seats.items × (length l.seats.items ≡ 4)
