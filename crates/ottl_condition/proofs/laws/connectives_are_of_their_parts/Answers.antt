use Rattle.ottl_condition.proofs.Connectives.{and-of, or-of, not-of}
use Rattle.ottl_condition.proofs.laws.connectives_are_of_their_parts.Goals as goal

pub returns-clause-and : goal.returns-clause-and
returns-clause-and c = and-of

pub returns-clause-or : goal.returns-clause-or
returns-clause-or c = or-of

pub returns-clause-not : goal.returns-clause-not
returns-clause-not c = not-of
