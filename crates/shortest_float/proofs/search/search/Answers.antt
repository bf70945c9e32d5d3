use Rattle.std.proofs.Common.{◌*◌, ◌^◌, ap, ◌∙◌, arith}
use Rattle.shortest_float.specs.Decimals.{digits_over}
use Rattle.shortest_float.proofs.Room.{small_at_top, not_at_zero, next_small, next_above, found, in_range}
use Rattle.shortest_float.proofs.search.search.Goals as goal

pub loop-digits-init : goal.loop-digits-init
loop-digits-init c = let s = c.args.size in (omega arith, small_at_top s.bits s.significand s.exponent c.requires, λ q l b. absurd (omega arith))

pub returns-in-Some-clause-power : goal.returns-in-Some-clause-power
returns-in-Some-clause-power c =
    let s = c.args.size in let l = c.loop-digits in found s.bits s.significand s.exponent c.requires l.power c.in-Some.ensures.some.0 l.invariant.0 l.invariant.2

pub returns-in-Some-clause-digits : goal.returns-in-Some-clause-digits
returns-in-Some-clause-digits c =
    let s = c.args.size in
    let l = c.loop-digits in
    let at = found s.bits s.significand s.exponent c.requires l.power c.in-Some.ensures.some.0 l.invariant.0 l.invariant.2 in
    c.in-Some.ensures.some.1 ∙ ap (digits_over s.bits (s.significand * 2 ^ s.exponent)) at

pub returns-in-Some-clause-range : goal.returns-in-Some-clause-range
returns-in-Some-clause-range c =
    let s = c.args.size in
    let l = c.loop-digits in
    let e = c.in-Some.ensures.some in
    let r = in_range s.bits s.significand s.exponent c.requires l.power e.0 l.invariant.1 in
    (omega (arith, r.0, e.1), omega (arith, r.1, e.1), l.invariant.0)

pub loop-digits-smaller : goal.loop-digits-smaller
loop-digits-smaller c = let s = c.args.size in omega (arith, not_at_zero s.bits s.significand s.exponent c.requires c.loop-digits.power c.in_default.ensures.none)

pub loop-digits-preserved : goal.loop-digits-preserved
loop-digits-preserved c =
    let s = c.args.size in
    let l = c.loop-digits in
    let none = c.in_default.ensures.none in (
      omega (arith, l.invariant.0),
      next_small s.bits s.significand s.exponent c.requires l.power none,
      next_above s.bits s.significand s.exponent c.requires l.power none l.invariant.2,
    )
