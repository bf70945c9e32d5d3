use Rattle.otlp_request.proofs.Bodies.{one_request}
use Rattle.otlp_request.proofs.laws.is_one_request.Goals as goal

pub returns : goal.returns
returns c = one_request
