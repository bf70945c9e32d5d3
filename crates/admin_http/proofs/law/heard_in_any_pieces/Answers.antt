use Rattle.admin_http.proofs.Laws.{one_request, stays_heard}
use Rattle.admin_http.proofs.law.heard_in_any_pieces.Goals as goal

pub returns-clause-one : goal.returns-clause-one
returns-clause-one c = one_request

pub returns-clause-stays : goal.returns-clause-stays
returns-clause-stays c = stays_heard
