use Rattle.std.proofs.Common.{◌≡◌, ◌+◌, ◌*◌, ◌<◌, ◌≤◌, ◌^◌, length}
use Rattle.request_show.specs.FirstFault.{first_fault}
use Rattle.request_show.proofs.walk.+messages.Given as goal

-- a turn is taken before a field is looked into
abbrev pub decreases-first_fault : goal.decreases-first_fault
decreases-first_fault l = 3 * l.turns

abbrev pub decreases-in_field : goal.decreases-in_field
decreases-in_field l = 3 * l.turns + 2

abbrev pub decreases-in_message : goal.decreases-in_message
decreases-in_message l = 3 * l.turns + 1

-- nothing was met so far, and what is met first is met in the bytes that are left
abbrev pub invariant-first_fault-loop-turns : goal.invariant-first_fault-loop-turns
invariant-first_fault-loop-turns l =
    (first_fault l.turns l.kind l.levels l.at l.left ≡ first_fault l.fn.turns l.fn.kind l.fn.levels l.fn.at l.fn.bytes)
    × (l.at + length l.left < 2 ^ 64) × (l.turns ≤ l.fn.turns)

abbrev pub decreases-first_fault-loop-turns : goal.decreases-first_fault-loop-turns
decreases-first_fault-loop-turns l = l.turns
