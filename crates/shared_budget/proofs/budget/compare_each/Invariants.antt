use Rattle.std.specs.Prelude.{All, vec_len}
use Rattle.shared_budget.specs.Columns.{IsCompared}
use Rattle.shared_budget.proofs.budget.compare_each.Given as goal

abbrev pub invariant-loop-node : goal.invariant-loop-node
invariant-loop-node g l = All IsCompared l.nodes.items → All IsCompared l.fn.nodes.items

abbrev pub decreases-loop-node : goal.decreases-loop-node
decreases-loop-node g l = vec_len l.nodes
