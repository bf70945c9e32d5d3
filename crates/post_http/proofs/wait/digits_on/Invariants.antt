use Rattle.std.proofs.Common.{◌≡◌, ◌≤◌, length}
use Rattle.post_http.specs.declared.wait.TheConstants.{LONGEST_WAIT}
use Rattle.post_http.specs.Waits.{digits_on}
use Rattle.post_http.proofs.wait.digits_on.Given as goal

-- the rest of the digits, behind this number, write the whole
abbrev pub invariant-loop-left : goal.invariant-loop-left
invariant-loop-left l = record {
  rest : digits_on l.number l.left ≡ digits_on l.fn.start l.fn.digits;
  small : l.number ≤ LONGEST_WAIT;
}

abbrev pub decreases-loop-left : goal.decreases-loop-left
decreases-loop-left l = length l.left
