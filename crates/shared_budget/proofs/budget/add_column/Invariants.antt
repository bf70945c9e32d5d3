use Rattle.std.specs.Prelude.{◌≡◌, ◌≤◌, All, length, vec_len}
use Rattle.shared_budget.specs.Rule.{IsSeat}
use Rattle.shared_budget.specs.Columns.{with_column}
use Rattle.shared_budget.proofs.budget.add_column.Given as goal

abbrev pub invariant-loop-node : goal.invariant-loop-node
invariant-loop-node g l =
    (with_column l.all.items l.column.items ≡ with_column l.fn.all.items l.fn.column.items) × (length l.column.items ≤ length l.all.items)
    × All (λ n. IsSeat n.1) l.column.items

abbrev pub decreases-loop-node : goal.decreases-loop-node
decreases-loop-node g l = vec_len l.column
