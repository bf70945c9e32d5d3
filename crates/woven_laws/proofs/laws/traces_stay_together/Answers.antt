use Rattle.woven_laws.proofs.Routes.{each_is_taken_by_its_shard, traces_stay_together}
use Rattle.woven_laws.proofs.laws.traces_stay_together.Goals as goal

pub returns-clause-each : goal.returns-clause-each
returns-clause-each c = each_is_taken_by_its_shard

pub returns-clause-together : goal.returns-clause-together
returns-clause-together c = traces_stay_together
