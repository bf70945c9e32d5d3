use Rattle.otlp_request.proofs.Bodies.{one_cause}
use Rattle.otlp_request.proofs.laws.has_one_cause.Goals as goal

pub returns : goal.returns
returns c = one_cause
