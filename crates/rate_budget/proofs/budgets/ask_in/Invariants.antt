use Rattle.std.proofs.Common.{◌≡◌, ◌-◌, ◌≤◌, ◌++◌, true, length, take, drop}
use Rattle.rate_budget.specs.Budget.{has_node, grants_at, after}
use Rattle.rate_budget.proofs.budgets.ask_in.Given as goal

abbrev pub decreases-loop-i : goal.decreases-loop-i
decreases-loop-i l = length l.counts - l.i

abbrev pub invariant-loop-i : goal.invariant-loop-i
invariant-loop-i l = record {
  within : l.i ≤ length l.counts;
  known : has_node (drop l.i l.counts) l.node ≡ true;
  grants : grants_at l.fn.counts l.node l.second l.n ≡ grants_at (drop l.i l.counts) l.node l.second l.n;
  after : after l.fn.counts l.node l.second l.n ≡ take l.i l.counts ++ after (drop l.i l.counts) l.node l.second l.n;
  same : l.counts ≡ l.fn.counts;
}
