use Rattle.std.proofs.Common.{◌≡◌, length}
use Rattle.request_show.specs.Front.{behind_number}
use Rattle.request_show.proofs.front.behind_number.Given as goal

-- the bytes that were passed over are of the number
abbrev pub invariant-loop-left : goal.invariant-loop-left
invariant-loop-left l = behind_number l.left ≡ behind_number l.fn.bytes

abbrev pub decreases-loop-left : goal.decreases-loop-left
decreases-loop-left l = length l.left
