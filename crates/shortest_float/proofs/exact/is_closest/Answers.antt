use Rattle.std.proofs.Common.{◌*◌, ◌^◌, sym, ◌∙◌, arith}
use Rattle.shortest_float.specs.Decimals.{over, under}
use Rattle.shortest_float.proofs.Multiples.{under_pos}
use Rattle.shortest_float.proofs.Compared.{between}
use Rattle.shortest_float.proofs.exact.is_closest.Goals as goal

pub returns : goal.returns
returns c h =
    between (over (c.args.size.significand * 2 ^ c.args.size.exponent) c.args.power) (under c.args.power) c.args.digits (omega (arith, c.requires.digits.0))
    (rw (c.compare_twice-lower.ensures, c.compare_twice-upper.ensures) at (sym c.is_between.ensures ∙ h)) (under_pos c.args.power)
