use Rattle.std.proofs.Common.{◌≡◌, ◌*◌, ◌/◌, ◌^◌, ap, ◌∙◌, arith}
use Rattle.shortest_float.specs.Words.{value}
use Rattle.shortest_float.proofs.WordValues.{part_fits, part_is, parts_are}
use Rattle.shortest_float.proofs.natural.Natural.multiply_by_twos.Goals as goal

pub multiply-requires : goal.multiply-requires
multiply-requires c = rw c.loop.invariant (part_fits (value c.args.self.now.words) 2 63 c.loop.counter c.args.power (omega arith) c.loop-test.true c.requires)

pub loop-preserved : goal.loop-preserved
loop-preserved c = c.multiply.ensures ∙ ap (λ n. n * 2 ^ 63) c.loop.invariant ∙ part_is (value c.args.self.now.words) 2 63 c.loop.counter

pub multiply-requires-2 : goal.multiply-requires-2
multiply-requires-2 c =
    let all : c.loop.counter ≡ c.args.power / 63 = omega (arith, c.loop-test.false, c.loop.auto.counter-end) in
    rw (c.pow.ensures, c.loop.invariant, all, parts_are (value c.args.self.now.words) 2 63 c.args.power) c.requires

pub returns : goal.returns
returns c =
    let all : c.loop.counter ≡ c.args.power / 63 = omega (arith, c.loop-test.false, c.loop.auto.counter-end) in
    c.multiply-2.ensures ∙ rw (c.pow.ensures, c.loop.invariant, all) (parts_are (value c.args.self.now.words) 2 63 c.args.power)
