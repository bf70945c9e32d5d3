use Rattle.std.proofs.Common.{◌+◌, ◌-◌, ◌*◌, ◌/◌, ◌^◌, ◌<◌, ◌≤◌, arith, pow_pos, mul-pos, le-div_iff_mul-le, div-lt_iff_lt-mul}
use Rattle.std.proofs.lemmas.Bool.{leb-true}
use Rattle.shortest_float.proofs.near.lies_between.Goals as goal

pub returns-then-saturating_sub-shift-clause-lower : goal.returns-then-saturating_sub-shift-clause-lower
returns-then-saturating_sub-shift-clause-lower c h =
    let unit : 0 < 2 ^ c.args.shift = pow_pos c.args.shift in
    let from : (c.args.middle - 1) * 2 ^ c.args.shift ≤ c.saturating_sub.result = (le-div_iff_mul-le unit).0 c.if-saturating_sub-shift.true in
    let middle : 0 < c.args.middle - 1 = omega (arith, c.requires) in
    omega (arith, c.saturating_sub.ensures, mul-pos middle unit)

pub returns-then-saturating_sub-shift-clause-upper : goal.returns-then-saturating_sub-shift-clause-upper
returns-then-saturating_sub-shift-clause-upper c h =
    let unit : 0 < 2 ^ c.args.shift = pow_pos c.args.shift in
    let few : (c.args.twice + 3) / 2 ^ c.args.shift ≤ c.args.middle = leb-true _ _ h in
    let below : c.args.twice + 3 < (c.args.middle + 1) * 2 ^ c.args.shift = (div-lt_iff_lt-mul unit).0 (omega arith) in
    omega arith
