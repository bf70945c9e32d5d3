use Rattle.run_comparison.specs.Rows.{seen_policy}
use Rattle.comparison_text.specs.Value.{policy_value}
use Rattle.comparison_text.proofs.InOrder.{AreWritten}
use Rattle.comparison_text.proofs.kept.put_policies.Given as goal

-- those so far are written
abbrev pub invariant-loop-row : goal.invariant-loop-row
invariant-loop-row l = AreWritten (λ row. policy_value (seen_policy row)) l.rows l.initial.out l.out l.row-index
