use Rattle.std.proofs.Common.{◌≡◌, ◌++◌}
use Rattle.toml.specs.View.{members_view, table_view}
use Rattle.config_findings.specs.FaultLists.{unknown_faults}
use Rattle.config_findings.proofs.settings_findings.add_unknown.Given as goal

-- what was found so far, and the faults of the keys that are left
abbrev pub invariant-loop-key : goal.invariant-loop-key
invariant-loop-key l = l.findings ++ unknown_faults l.kind (members_view l.key-iterator) ≡ l.fn.findings ++ unknown_faults l.kind (table_view l.table)
