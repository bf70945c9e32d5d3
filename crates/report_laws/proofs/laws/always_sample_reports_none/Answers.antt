use Rattle.report_laws.proofs.Told.{serve_drops_none, replay_drops_none}
use Rattle.report_laws.proofs.laws.always_sample_reports_none.Goals as goal

pub returns-clause-serve : goal.returns-clause-serve
returns-clause-serve c = serve_drops_none

pub returns-clause-replay : goal.returns-clause-replay
returns-clause-replay c = replay_drops_none
