use Rattle.std.proofs.Common.{◌≡◌, drop}
use Rattle.run_comparison.specs.Policies.{sum_of}
use Rattle.run_comparison.proofs.policies.sum_of.Given as goal

-- with those that are left, all are summed
abbrev pub invariant-loop-amount : goal.invariant-loop-amount
invariant-loop-amount l = sum_of l.sum (drop l.amount-index l.others) ≡ sum_of l.fn.first l.others
