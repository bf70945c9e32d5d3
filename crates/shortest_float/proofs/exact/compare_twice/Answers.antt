use Rattle.std.proofs.Common.{◌-◌, ◌*◌, ◌^◌, ap, ◌∙◌, arith, pow_pos}
use Rattle.shortest_float.proofs.Compared.{cmp_scaled, left_is, right_is, room, room_of_tens}
use Rattle.shortest_float.proofs.exact.compare_twice.Goals as goal

pub multiply_by_tens-requires : goal.multiply_by_tens-requires
multiply_by_tens-requires c = rw (c.of_word-left.ensures, c.saturating_sub.ensures) (room_of_tens (2 * c.args.size.significand) (342 - c.args.power) (omega (arith, c.requires.finite.0)) (omega arith))

pub multiply_by_twos-requires : goal.multiply_by_twos-requires
multiply_by_twos-requires c =
    rw (c.multiply_by_tens.ensures, c.of_word-left.ensures, c.saturating_sub.ensures)
    (room (2 * c.args.size.significand) (342 - c.args.power) (c.args.size.exponent - c.min-shared.result) (omega (arith, c.requires.finite.0)) (omega arith) (omega (arith, c.min-shared.ensures, c.requires.finite.1)))

pub multiply_by_tens-requires-2 : goal.multiply_by_tens-requires-2
multiply_by_tens-requires-2 c = rw (c.of_word-right.ensures, c.saturating_sub-2.ensures) (room_of_tens c.args.count (c.args.power - 342) c.ranges.count.fits (omega (arith, c.requires.power)))

pub multiply_by_twos-requires-2 : goal.multiply_by_twos-requires-2
multiply_by_twos-requires-2 c =
    rw (c.multiply_by_tens-2.ensures, c.of_word-right.ensures, c.saturating_sub-2.ensures) (room c.args.count (c.args.power - 342) (1074 - c.min-shared.result) c.ranges.count.fits (omega (arith, c.requires.power)) (omega arith))

pub returns : goal.returns
returns c =
    let a = c.args in
    let s = c.min-shared.result in
    let left = rw (c.multiply_by_tens.ensures, c.of_word-left.ensures, c.saturating_sub.ensures) at c.multiply_by_twos.ensures in
    let right = rw (c.multiply_by_tens-2.ensures, c.of_word-right.ensures, c.saturating_sub-2.ensures) at c.multiply_by_twos-2.ensures in
    c.compare.ensures
    ∙ cmp_scaled _ _ (2 ^ s) _ _ (pow_pos s) (ap (λ x. x * 2 ^ s) left ∙ left_is a.size.significand (10 ^ (342 - a.power)) a.size.exponent s (omega (arith, c.min-shared.ensures)))
    (ap (λ x. x * 2 ^ s) right ∙ right_is a.count (10 ^ (a.power - 342)) s (omega (arith, c.min-shared.ensures)))
