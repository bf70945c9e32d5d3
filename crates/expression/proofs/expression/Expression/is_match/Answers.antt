use Rattle.std.proofs.Common.{◌∙◌, sym}
use Rattle.expression.specs.Expressions.{MatchesAs}
use Rattle.expression.proofs.expression.Expression.is_match.Goals as goal

pub returns-clause-found : goal.returns-clause-found
unfolding MatchesAs
returns-clause-found c = rw (sym c.self.view_is) (c.is_match.ensures.found ∙ c.self.invariant.1 c.args.value.now (λ k. (c.type_inv.value k).fits))
