use Rattle.ottl_condition.proofs.Connectives.{twice, not-and, not-or}
use Rattle.ottl_condition.proofs.laws.not_goes_inside.Goals as goal

pub returns-clause-twice : goal.returns-clause-twice
returns-clause-twice c = twice

pub returns-clause-and : goal.returns-clause-and
returns-clause-and c = not-and

pub returns-clause-or : goal.returns-clause-or
returns-clause-or c = not-or
