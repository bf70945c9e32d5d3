use Rattle.std.proofs.Common.{◌≡◌, length, ◌≤◌, ◌<◌, None, IfSome, option_copied}
use Rattle.config_findings.specs.Addresses.{behind_last}
use Rattle.config_findings.proofs.addresses.behind_last.Given as goal

-- what stands behind the last colon so far
abbrev pub invariant-loop-left : goal.invariant-loop-left
invariant-loop-left l = (behind_last l.left (option_copied l.found) ≡ behind_last l.fn.text None) × IfSome l.found (λ port. length port.now < length l.fn.text) × (length l.left ≤ length l.fn.text)

abbrev pub decreases-loop-left : goal.decreases-loop-left
decreases-loop-left l = length l.left
