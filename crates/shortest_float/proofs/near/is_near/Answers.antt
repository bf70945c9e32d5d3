use Rattle.std.proofs.Common.{◌+◌, ◌-◌, ◌*◌, ◌/◌, arith}
use Rattle.shortest_float.proofs.TableBounds.{near_is}
use Rattle.shortest_float.proofs.near.is_near.Goals as goal

pub returns : goal.returns
returns c h =
    let s = c.args.size in
    let p = c.args.power in
    let same = c.leading_product-twice.ensures.same in
    near_is s.significand s.exponent p c.power_of_ten.result (2276 - (s.exponent + ((684 - p) * 217706 + 58980) / 65536 + 2)) c.args.digits (omega (arith, c.requires.finite.0)) (omega (arith, c.requires.finite.1)) (omega arith) (omega (arith, c.requires.digits.2))
    c.power_of_ten.ensures (omega arith) (omega (arith, c.requires.digits.0)) (rw same at (c.lies_between.ensures.lower h)) (rw same at (c.lies_between.ensures.upper h))
