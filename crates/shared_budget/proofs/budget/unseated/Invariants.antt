use Rattle.std.specs.Prelude.{◌≡◌, [], length}
use Rattle.shared_budget.specs.Budget.{AreNewSeatsFrom}
use Rattle.shared_budget.proofs.budget.unseated.Given as goal

abbrev pub invariant-loop : goal.invariant-loop
invariant-loop g l = (length l.all.items ≡ l.counter) × AreNewSeatsFrom [] [] l.seats 0 l.all.items
