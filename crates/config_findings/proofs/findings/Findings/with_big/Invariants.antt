use Rattle.std.proofs.Common.{◌≡◌, ◌++◌, length, replicate}
use Rattle.config_findings.specs.FaultLists.{faults_in}
use Rattle.config_faults.specs.declared.fault.ConfigFault.TheVariants.{ExpressionTooBig}
use Rattle.config_findings.proofs.findings.Findings.with_big.Given as goal

-- what was found so far, and the expressions that are left
abbrev pub invariant-loop-said : goal.invariant-loop-said
invariant-loop-said l = faults_in l.found.items ++ replicate (length l.said-iterator.rest.items) ExpressionTooBig ≡ l.fn.self ++ replicate (length l.fn.big.items) ExpressionTooBig
