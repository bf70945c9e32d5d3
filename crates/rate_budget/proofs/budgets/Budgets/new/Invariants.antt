use Rattle.std.proofs.Common.{◌≡◌, [], map, take}
use Rattle.rate_budget.specs.Budget.{limiter_count}
use Rattle.rate_budget.proofs.budgets.Budgets.new.Given as goal

abbrev pub invariant-loop-limiter : goal.invariant-loop-limiter
invariant-loop-limiter l = l.counts.items ≡ map (limiter_count []) (take l.limiter-index l.limiter-items)
