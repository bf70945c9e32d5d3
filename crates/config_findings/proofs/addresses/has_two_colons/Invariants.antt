use Rattle.std.proofs.Common.{◌≡◌, length}
use Rattle.config_findings.specs.Addresses.{has_two_colons}
use Rattle.config_findings.proofs.addresses.has_two_colons.Given as goal

-- what was passed over is no colon
abbrev pub invariant-loop-left : goal.invariant-loop-left
invariant-loop-left l = has_two_colons l.left ≡ has_two_colons l.fn.text

abbrev pub decreases-loop-left : goal.decreases-loop-left
decreases-loop-left l = length l.left
