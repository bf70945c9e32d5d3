use Rattle.std.proofs.Common.{sym, subst, ◌∙◌}
use Rattle.decision_cache.specs.Lists.{CacheLists}
use Rattle.decision_cache.specs.Touches.{StandsFor, touched_by}
use Rattle.std.proofs.Common.{◌∷◌}
use Rattle.decision_cache.proofs.Stands.{stands-asked, asked-cached}
use Rattle.decision_cache.proofs.cache.DecisionCache.ask.Goals as goal

pub returns-clause-remembered : goal.returns-clause-remembered
returns-clause-remembered c touches w = c.renew.ensures.verdict ∙ asked-cached c.args.self.now c.args.id touches w

pub returns-clause-stands : goal.returns-clause-stands
returns-clause-stands c touches episode verdict w e =
    let P = λ (x : CacheLists). StandsFor x (touched_by episode c.args.id verdict ∷ touches) in
    subst P (sym c.renew.ensures.lists) (stands-asked c.args.self.now c.args.id touches episode verdict w (sym c.renew.ensures.verdict ∙ e))
