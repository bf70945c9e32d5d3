use Rattle.std.proofs.Common.{◌≡◌, ◌-◌, ◌*◌, ◌^◌, nat_eq, sym, ap, ◌∙◌, arith, le-ltb, ne_eqb}
use Rattle.fast_float.proofs.ExactLemmas.{ten_to_pos}
use Rattle.shortest_float.specs.Decimals.{reads}
use Rattle.shortest_float.proofs.ReadBits.{read_of_nearest, read_zero}
use Rattle.shortest_float.proofs.reading.reads_as.Goals as goal

pub returns-then-digits-gt0 : goal.returns-then-digits-gt0
unfolding reads
returns-then-digits-gt0 c = ap (λ r. nat_eq r c.args.bits) (sym (read_of_nearest _ _ _ c.nearest_bits.ensures))

pub returns-else-digits-gt0 : goal.returns-else-digits-gt0
unfolding reads
returns-else-digits-gt0 c =
    let none : c.args.digits ≡ 0 = omega (arith, c.if-digits-gt0.false) in
    let zero = read_zero (c.args.digits * 10 ^ (c.args.power - 342)) (10 ^ (342 - c.args.power)) (ten_to_pos _) (ap (λ n. n * 10 ^ (c.args.power - 342)) none ∙ omega arith) in
    le-ltb 0 c.args.digits c.if-digits-gt0.false ∙ sym (ap (λ r. nat_eq r c.args.bits) zero ∙ ne_eqb 0 c.args.bits (λ e. omega arith))
