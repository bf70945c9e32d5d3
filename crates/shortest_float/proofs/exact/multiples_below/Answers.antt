use Rattle.std.proofs.Common.{◌+◌, ◌*◌, ◌/◌, ◌^◌, sym, ◌∙◌, arith}
use Rattle.shortest_float.specs.Decimals.{over, under}
use Rattle.shortest_float.proofs.Multiples.{under_pos}
use Rattle.shortest_float.proofs.Compared.{above_it, at_most_it}
use Rattle.shortest_float.proofs.exact.multiples_below.Goals as goal

pub returns-then-is_below : goal.returns-then-is_below
returns-then-is_below c =
    let n = over (c.args.size.significand * 2 ^ c.args.size.exponent) c.args.power in
    let less = above_it n (under c.args.power) 1 (under_pos c.args.power) (sym c.is_below.ensures ∙ c.if-is_below.true) in
    omega arith

pub loop-beyond-init : goal.loop-beyond-init
loop-beyond-init c =
    let n = over (c.args.size.significand * 2 ^ c.args.size.exponent) c.args.power in
    let more = at_most_it n (under c.args.power) 1 (under_pos c.args.power) (sym c.is_below.ensures ∙ c.if-is_below.false) in
    (more, c.requires.small, omega arith)

pub loop-beyond-preserved-then-is_below-2 : goal.loop-beyond-preserved-then-is_below-2
loop-beyond-preserved-then-is_below-2 c =
    let n = over (c.args.size.significand * 2 ^ c.args.size.exponent) c.args.power in
    let l = c.loop-beyond in
    let less = above_it n (under c.args.power) ((l.least + l.beyond) / 2) (under_pos c.args.power) (sym c.is_below-in-loop-beyond.ensures ∙ c.if-is_below-2.true) in
    (l.invariant.0, less, omega (arith, l.invariant.2, c.loop-beyond-test.true))

pub loop-beyond-preserved : goal.loop-beyond-preserved
loop-beyond-preserved c =
    let n = over (c.args.size.significand * 2 ^ c.args.size.exponent) c.args.power in
    let l = c.loop-beyond in
    let more = at_most_it n (under c.args.power) ((l.least + l.beyond) / 2) (under_pos c.args.power) (sym c.is_below-in-loop-beyond.ensures ∙ c.if-is_below-2.false) in
    (more, l.invariant.1, l.invariant.2)
