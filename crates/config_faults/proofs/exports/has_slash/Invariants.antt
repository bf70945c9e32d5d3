use Rattle.std.proofs.Common.{◌≡◌, length}
use Rattle.config_faults.specs.Exports.{has_slash}
use Rattle.config_faults.proofs.exports.has_slash.Given as goal

-- what was passed over is no slash
abbrev pub invariant-loop-left : goal.invariant-loop-left
invariant-loop-left l = has_slash l.left ≡ has_slash l.fn.text

abbrev pub decreases-loop-left : goal.decreases-loop-left
decreases-loop-left l = length l.left
