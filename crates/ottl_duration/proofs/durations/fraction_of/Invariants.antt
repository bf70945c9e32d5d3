use Rattle.std.proofs.Common.{◌≡◌, ◌≤◌, length, drop}
use Rattle.ottl_duration.specs.Durations.{fraction_of}
use Rattle.ottl_duration.proofs.durations.fraction_of.Given as goal

abbrev pub invariant-loop-at : goal.invariant-loop-at
invariant-loop-at l = (l.at ≤ length l.digits) × (l.part ≡ fraction_of l.fn.unit (drop l.at l.digits))

abbrev pub decreases-loop-at : goal.decreases-loop-at
decreases-loop-at l = l.at
