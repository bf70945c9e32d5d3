use Rattle.std.proofs.Common.{take}
use Rattle.shared_budget.specs.Budget.{AreNewSeats}
use Rattle.shared_budget.proofs.budget.SharedBudget.new.Given as goal

abbrev pub invariant-loop-limiter : goal.invariant-loop-limiter
invariant-loop-limiter g l = AreNewSeats (take l.limiter-index l.limiter-items) l.seats l.all.items
