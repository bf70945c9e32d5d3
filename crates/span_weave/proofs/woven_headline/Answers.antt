use Rattle.span_weave.proofs.Headlines.{woven_headline}
use Rattle.span_weave.proofs.woven_headline.Goals as goal

pub returns : goal.returns
returns c = woven_headline
