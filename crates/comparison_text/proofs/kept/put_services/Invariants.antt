use Rattle.run_comparison.specs.Rows.{seen_service}
use Rattle.comparison_text.specs.Value.{service_value}
use Rattle.comparison_text.proofs.InOrder.{AreWritten}
use Rattle.comparison_text.proofs.kept.put_services.Given as goal

-- those so far are written
abbrev pub invariant-loop-row : goal.invariant-loop-row
invariant-loop-row l = AreWritten (λ row. service_value (seen_service row)) l.rows l.initial.out l.out l.row-index
