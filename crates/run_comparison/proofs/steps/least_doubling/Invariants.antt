use Rattle.std.proofs.Common.{◌≡◌, ◌<◌}
use Rattle.run_comparison.specs.Timeline.{least_doubling}
use Rattle.run_comparison.proofs.steps.least_doubling.Given as goal

-- the least of the doublings that are left is the least of all
abbrev pub invariant-doublings : goal.invariant-doublings
invariant-doublings l = (least_doubling l.left l.from l.to l.wide ≡ least_doubling l.fn.doublings l.from l.to l.width) × (0 < l.wide)

abbrev pub decreases-doublings : goal.decreases-doublings
decreases-doublings l = l.left
