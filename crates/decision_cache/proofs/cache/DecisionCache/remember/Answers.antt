use Rattle.decision_cache.proofs.Stands.{stands-put}
use Rattle.decision_cache.proofs.cache.DecisionCache.remember.Goals as goal

pub returns-clause-stands : goal.returns-clause-stands
returns-clause-stands c = stands-put c.args.self.now c.put.new.self c.args.id c.args.verdict c.put.result c.requires c.put.ensures
