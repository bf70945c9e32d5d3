use Rattle.std.proofs.Common.{refl}
use Rattle.config_faults.proofs.fault_walk.tables_fault.Goals as goal

pub returns : goal.returns
returns c =
    rw (
      c.least-3.ensures,
      c.least-2.ensures,
      c.least.ensures,
      c.inner_fault-cache.ensures,
      c.inner_fault-export.ensures,
      c.inner_fault-ledger.ensures,
      c.cache_settings.ensures,
      c.export_settings.ensures,
      c.ledger_settings.ensures,
      c.required_policies_fault.ensures,
    )
    refl
