use Rattle.std.proofs.Common.{◌≡◌, length}
use Rattle.config_findings.specs.Addresses.{has_colon}
use Rattle.config_findings.proofs.addresses.has_colon.Given as goal

-- what was passed over is no colon
abbrev pub invariant-loop-left : goal.invariant-loop-left
invariant-loop-left l = has_colon l.left ≡ has_colon l.fn.text

abbrev pub decreases-loop-left : goal.decreases-loop-left
decreases-loop-left l = length l.left
