use Rattle.std.proofs.Common.{◌*◌, ◌^◌, refl, sym, ap, ◌∙◌, arith}
use Rattle.shortest_float.specs.Decimals.{digits_over}
use Rattle.shortest_float.proofs.Multiples.{power_checked, digits_alone, digits_closest}
use Rattle.shortest_float.proofs.shortest.is_shortest.Goals as goal

pub returns-then-is_alone-clause-power : goal.returns-then-is_alone-clause-power
returns-then-is_alone-clause-power c h =
    let s = c.args.size in
    let d = c.args.decimal in
    let fewest = c.if-not-is_fewest.ensures in
    let range = c.if-not-is_in_range.ensures refl in
    power_checked s.bits s.significand s.exponent c.requires d.power d.digits (sym c.reads_as.ensures ∙ c.if-not-reads_as.false) (fewest.lower refl) (fewest.upper refl) (omega arith)

pub returns-then-is_alone-clause-digits : goal.returns-then-is_alone-clause-digits
returns-then-is_alone-clause-digits c h =
    let s = c.args.size in
    let d = c.args.decimal in
    let fewest = c.if-not-is_fewest.ensures in
    let range = c.if-not-is_in_range.ensures refl in
    let alone = c.if-is_alone.ensures in
    let read = sym c.reads_as.ensures ∙ c.if-not-reads_as.false in
    let power = power_checked s.bits s.significand s.exponent c.requires d.power d.digits read (fewest.lower refl) (fewest.upper refl) (omega arith) in
    sym (digits_alone s.bits s.significand s.exponent c.requires d.power d.digits read (alone.lower refl) (alone.upper refl)) ∙ ap (digits_over s.bits (s.significand * 2 ^ s.exponent)) power

pub returns-clause-power : goal.returns-clause-power
returns-clause-power c h =
    let s = c.args.size in
    let d = c.args.decimal in
    let fewest = c.if-not-is_fewest.ensures in
    let range = c.if-not-is_in_range.ensures refl in
    power_checked s.bits s.significand s.exponent c.requires d.power d.digits (sym c.reads_as.ensures ∙ c.if-not-reads_as.false) (fewest.lower refl) (fewest.upper refl) (omega arith)

pub returns-clause-digits : goal.returns-clause-digits
returns-clause-digits c h =
    let s = c.args.size in
    let d = c.args.decimal in
    let fewest = c.if-not-is_fewest.ensures in
    let range = c.if-not-is_in_range.ensures refl in
    let read = sym c.reads_as.ensures ∙ c.if-not-reads_as.false in
    let power = power_checked s.bits s.significand s.exponent c.requires d.power d.digits read (fewest.lower refl) (fewest.upper refl) (omega arith) in
    sym (digits_closest s.bits s.significand s.exponent c.requires d.power d.digits read (c.is_closest.ensures h)) ∙ ap (digits_over s.bits (s.significand * 2 ^ s.exponent)) power

pub returns-then-is_near-clause-power : goal.returns-then-is_near-clause-power
returns-then-is_near-clause-power c h =
    let s = c.args.size in
    let d = c.args.decimal in
    let fewest = c.if-not-is_fewest.ensures in
    let range = c.if-not-is_in_range.ensures refl in
    power_checked s.bits s.significand s.exponent c.requires d.power d.digits (sym c.reads_as.ensures ∙ c.if-not-reads_as.false) (fewest.lower refl) (fewest.upper refl) (omega arith)

pub returns-then-is_near-clause-digits : goal.returns-then-is_near-clause-digits
returns-then-is_near-clause-digits c h =
    let s = c.args.size in
    let d = c.args.decimal in
    let fewest = c.if-not-is_fewest.ensures in
    let range = c.if-not-is_in_range.ensures refl in
    let read = sym c.reads_as.ensures ∙ c.if-not-reads_as.false in
    let power = power_checked s.bits s.significand s.exponent c.requires d.power d.digits read (fewest.lower refl) (fewest.upper refl) (omega arith) in
    sym (digits_closest s.bits s.significand s.exponent c.requires d.power d.digits read (c.if-is_near.ensures refl)) ∙ ap (digits_over s.bits (s.significand * 2 ^ s.exponent)) power
