use Rattle.otlp_request.proofs.Bodies.{not_both}
use Rattle.otlp_request.proofs.laws.is_request_or_none.Goals as goal

pub returns : goal.returns
returns c = not_both
