use Rattle.std.proofs.Common.{◌≡◌, ℕ, ◌*◌, ◌^◌, ◌<◌, ◌≤◌, false}
use Rattle.shortest_float.specs.Decimals.{multiple_below, has_decimal}
use Rattle.shortest_float.proofs.search.search.Given as goal

-- no power above this one has a multiple that reads as the float
abbrev pub invariant-loop-digits : goal.invariant-loop-digits
invariant-loop-digits l =
    let size = l.size.significand * 2 ^ l.size.exponent in (l.power ≤ 650) × (multiple_below size l.power < 40 * 2 ^ 53) × ((q : ℕ) → l.power < q → q ≤ 650 → has_decimal l.size.bits size q ≡ false)

abbrev pub decreases-loop-digits : goal.decreases-loop-digits
decreases-loop-digits l = l.power
