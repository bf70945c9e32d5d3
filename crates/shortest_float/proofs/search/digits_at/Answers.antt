use Rattle.std.proofs.Common.{◌+◌, sym, ap, ◌∙◌}
use Rattle.shortest_float.specs.Decimals.{reads}
use Rattle.shortest_float.proofs.Multiples.{where_both, where_lower, where_upper, where_none}
use Rattle.shortest_float.proofs.search.digits_at.Goals as goal

pub returns-then-upper-clause-some : goal.returns-then-upper-clause-some
returns-then-upper-clause-some c =
    let a = c.args in
    let below = c.multiples_below-below.ensures in
    let lower = ap (reads a.size.bits a.power) (sym below) ∙ sym c.reads_as-lower.ensures ∙ c.if-lower.true in
    let upper = ap (λ d. reads a.size.bits a.power (d + 1)) (sym below) ∙ sym c.reads_as-upper.ensures ∙ c.if-upper.true in
    let w = where_both a.size.bits a.size.significand a.size.exponent c.requires.finite a.power lower upper in
    (w.0, c.closer.ensures ∙ w.1)

pub returns-else-upper-clause-some : goal.returns-else-upper-clause-some
returns-else-upper-clause-some c =
    let a = c.args in
    let below = c.multiples_below-below.ensures in
    let lower = ap (reads a.size.bits a.power) (sym below) ∙ sym c.reads_as-lower.ensures ∙ c.if-lower.true in
    let upper = ap (λ d. reads a.size.bits a.power (d + 1)) (sym below) ∙ sym c.reads_as-upper.ensures ∙ c.if-upper.false in
    let w = where_lower a.size.bits a.size.significand a.size.exponent c.requires.finite a.power lower upper in
    (w.0, below ∙ w.1)

pub returns-then-upper-2-clause-some : goal.returns-then-upper-2-clause-some
returns-then-upper-2-clause-some c =
    let a = c.args in
    let below = c.multiples_below-below.ensures in
    let lower = ap (reads a.size.bits a.power) (sym below) ∙ sym c.reads_as-lower.ensures ∙ c.if-lower.false in
    let upper = ap (λ d. reads a.size.bits a.power (d + 1)) (sym below) ∙ sym c.reads_as-upper.ensures ∙ c.if-upper-2.true in
    let w = where_upper a.size.bits a.size.significand a.size.exponent c.requires.finite a.power lower upper in
    (w.0, ap (λ d. d + 1) below ∙ w.1)

pub returns-else-upper-2-clause-none : goal.returns-else-upper-2-clause-none
returns-else-upper-2-clause-none c =
    let a = c.args in
    let below = c.multiples_below-below.ensures in
    let lower = ap (reads a.size.bits a.power) (sym below) ∙ sym c.reads_as-lower.ensures ∙ c.if-lower.false in
    let upper = ap (λ d. reads a.size.bits a.power (d + 1)) (sym below) ∙ sym c.reads_as-upper.ensures ∙ c.if-upper-2.false in
    where_none a.size.bits a.size.significand a.size.exponent c.requires.finite a.power lower upper
