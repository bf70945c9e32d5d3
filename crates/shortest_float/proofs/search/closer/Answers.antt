use Rattle.std.proofs.Common.{◌*◌, ◌^◌, sym, ◌∙◌}
use Rattle.std.specs.declared.cmp.Ordering.TheVariants.{Less, Equal, Greater}
use Rattle.shortest_float.specs.Decimals.{over, under}
use Rattle.shortest_float.proofs.Multiples.{under_pos}
use Rattle.shortest_float.proofs.Compared.{closer_is}
use Rattle.shortest_float.proofs.search.closer.Goals as goal

pub returns-in-Less : goal.returns-in-Less
returns-in-Less c =
    closer_is (over (c.args.size.significand * 2 ^ c.args.size.exponent) c.args.power) (under c.args.power) c.args.below Less (under_pos c.args.power) c.requires.below (sym c.in-Less.is ∙ c.compare_twice.ensures)

pub returns-in-Equal : goal.returns-in-Equal
returns-in-Equal c =
    closer_is (over (c.args.size.significand * 2 ^ c.args.size.exponent) c.args.power) (under c.args.power) c.args.below Equal (under_pos c.args.power) c.requires.below (sym c.in-Equal.is ∙ c.compare_twice.ensures)

pub returns-in-Greater : goal.returns-in-Greater
returns-in-Greater c =
    closer_is (over (c.args.size.significand * 2 ^ c.args.size.exponent) c.args.power) (under c.args.power) c.args.below Greater (under_pos c.args.power) c.requires.below (sym c.in-Greater.is ∙ c.compare_twice.ensures)
