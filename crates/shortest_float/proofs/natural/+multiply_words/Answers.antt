use Rattle.std.proofs.Common.{◌≡◌, ◌+◌, ◌*◌, ◌/◌, ◌%◌, ◌^◌, ◌∷◌, length, sym, subst, arith}
use Rattle.shortest_float.specs.Words.{value}
use Rattle.shortest_float.proofs.WordValues.{none_is, product_is}
use Rattle.shortest_float.proofs.natural.+multiply_words.Goals as goal

pub returns-in_default-clause-product : goal.returns-in_default-clause-product
returns-in_default-clause-product t c =
    let none = none_is c.args.words.now c.in_default.ensures.cases in
    rw none (omega arith)

pub returns-clause-product : goal.returns-clause-product
returns-clause-product t c =
    let first = c.in-Some.first.now in
    let rest = c.in-Some.rest.now in
    let carry = c.multiply_words-carry.result in
    let product = first * c.args.factor + carry in
    subst (λ words. value (product % 2 ^ 64 ∷ c.multiply_words-carry.new.words) + product / 2 ^ 64 * (2 ^ 64) ^ length words ≡ value words * c.args.factor) (sym c.in-Some.ensures.cases.0)
    (product_is first c.args.factor carry rest c.multiply_words-carry.new.words c.multiply_words-carry.ensures.length c.multiply_words-carry.ensures.product)
