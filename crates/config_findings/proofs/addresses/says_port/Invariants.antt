use Rattle.std.proofs.Common.{◌≡◌, length, ◌≤◌}
use Rattle.config_findings.specs.Addresses.{says_port}
use Rattle.config_findings.proofs.addresses.says_port.Given as goal

-- the digits so far say a number of at most 65535
abbrev pub invariant-loop-left : goal.invariant-loop-left
invariant-loop-left l = (says_port l.value l.left ≡ says_port 0 l.fn.text) × (l.value ≤ 65535)

abbrev pub decreases-loop-left : goal.decreases-loop-left
decreases-loop-left l = length l.left
