use Rattle.agreement_laws.proofs.Same.{serve_is_replay, items_decide}
use Rattle.agreement_laws.proofs.laws.serve_is_replay.Goals as goal

pub returns-clause-same : goal.returns-clause-same
returns-clause-same c = serve_is_replay

pub returns-clause-items : goal.returns-clause-items
returns-clause-items c = items_decide
