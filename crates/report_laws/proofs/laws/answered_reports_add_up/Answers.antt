use Rattle.report_laws.proofs.Ends.{serve_answers, replay_answers}
use Rattle.report_laws.proofs.laws.answered_reports_add_up.Goals as goal

pub returns-clause-serve : goal.returns-clause-serve
returns-clause-serve c = serve_answers

pub returns-clause-replay : goal.returns-clause-replay
returns-clause-replay c = replay_answers
