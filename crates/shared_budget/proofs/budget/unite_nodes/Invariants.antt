use Rattle.std.specs.Prelude.{◌≡◌, vec_len}
use Rattle.shared_budget.specs.Columns.{united}
use Rattle.shared_budget.proofs.AllNodes.{SameTables}
use Rattle.shared_budget.proofs.budget.unite_nodes.Given as goal

abbrev pub invariant-loop-other : goal.invariant-loop-other
invariant-loop-other l = (united l.nodes.items l.others.items ≡ united l.fn.nodes.items l.fn.others.items) × SameTables l.nodes.items l.others.items

abbrev pub decreases-loop-other : goal.decreases-loop-other
decreases-loop-other l = vec_len l.others
