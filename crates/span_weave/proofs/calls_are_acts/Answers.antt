use Rattle.span_weave.proofs.Acts.{calls_are_acts}
use Rattle.span_weave.proofs.calls_are_acts.Goals as goal

pub returns : goal.returns
returns c = calls_are_acts
