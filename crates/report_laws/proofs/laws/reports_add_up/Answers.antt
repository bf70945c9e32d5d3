use Rattle.report_laws.proofs.Told.{serve_adds_up, replay_adds_up}
use Rattle.report_laws.proofs.laws.reports_add_up.Goals as goal

pub returns-clause-serve : goal.returns-clause-serve
returns-clause-serve c = serve_adds_up

pub returns-clause-replay : goal.returns-clause-replay
returns-clause-replay c = replay_adds_up
