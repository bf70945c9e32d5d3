use Rattle.std.proofs.Common.{◌-◌, ◌*◌, ◌^◌, ◌<◌, ◌≤◌}
use Rattle.shortest_float.specs.Decimals.{multiple_below}
use Rattle.shortest_float.proofs.exact.multiples_below.Given as goal

-- the number that is sought lies from `least` up to `beyond`
abbrev pub invariant-loop-beyond : goal.invariant-loop-beyond
invariant-loop-beyond l =
    let sought = multiple_below (l.size.significand * 2 ^ l.size.exponent) l.power in (l.least ≤ sought) × (sought < l.beyond) × (l.beyond ≤ 40 * 2 ^ 53)

abbrev pub decreases-loop-beyond : goal.decreases-loop-beyond
decreases-loop-beyond l = l.beyond - l.least
