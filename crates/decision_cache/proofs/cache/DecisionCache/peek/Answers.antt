use Rattle.std.proofs.Common.{◌∙◌}
use Rattle.decision_cache.proofs.Stands.{asked-cached}
use Rattle.decision_cache.proofs.cache.DecisionCache.peek.Goals as goal

pub returns-clause-remembered : goal.returns-clause-remembered
returns-clause-remembered c touches w = c.held_as.ensures ∙ asked-cached c.args.self.now c.args.id touches w
