use Rattle.std.proofs.Common.{◌∙◌, ◌++◌, ap, List, ℕ}
use Rattle.collector_serve.specs.Told.{ledger_part}
use Rattle.collector_serve.proofs.charge.InChargeAdmin.metrics.Goals as goal

pub returns : goal.returns
returns g c = (
  c.metrics-metrics.result,
  c.deref.result.now,
  c.deref-2.result.now,
  c.ledger_counts.result,
  c.in_ok-put_counts.ensures ∙ ap (λ (text : List ℕ). text ++ ledger_part c.ledger_counts.result) c.in_ok-text.ensures,
)
