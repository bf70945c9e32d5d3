use Rattle.std.proofs.Common.{◌≡◌, ◌++◌, ◌+◌, ◌≤◌, length, drop, count_by}
use Rattle.tsc_config.specs.Reading.{is_one}
use Rattle.config_findings.specs.FaultLists.{expressions_faults}
use Rattle.config_findings.proofs.expressions.add_all.Given as goal

-- what was found so far, and the faults of the expressions that are left; as many are too big as are left, at most
abbrev pub invariant-loop-expression : goal.invariant-loop-expression
invariant-loop-expression l = record {
  faults : l.findings ++ expressions_faults (drop l.expression-index l.expressions) ≡ l.fn.findings ++ expressions_faults l.expressions;
  big : length l.big.items + count_by is_one (drop l.expression-index l.expressions) ≤ length l.fn.big.items + count_by is_one l.expressions;
}
