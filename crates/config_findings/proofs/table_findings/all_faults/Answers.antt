use Rattle.std.proofs.Common.{rules}
use Rattle.config_findings.proofs.Told.{some_told}
use Rattle.config_findings.proofs.table_findings.all_faults.Goals as goal

pub returns-clause-some : goal.returns-clause-some
returns-clause-some c = some_told _ _ _ _ c.with_big.ensures (search rules) (search rules)
