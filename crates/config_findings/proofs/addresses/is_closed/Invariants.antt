use Rattle.std.proofs.Common.{◌≡◌, length}
use Rattle.config_findings.specs.Addresses.{is_closed}
use Rattle.config_findings.proofs.addresses.is_closed.Given as goal

-- what was passed over stands in an address
abbrev pub invariant-loop-left : goal.invariant-loop-left
invariant-loop-left l = is_closed l.left ≡ is_closed l.fn.text

abbrev pub decreases-loop-left : goal.decreases-loop-left
decreases-loop-left l = length l.left
