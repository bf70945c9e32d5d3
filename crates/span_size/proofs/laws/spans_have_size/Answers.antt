use Rattle.span_size.proofs.Totals.{some-size}
use Rattle.span_size.proofs.laws.spans_have_size.Goals as goal

pub returns : goal.returns
returns c = some-size
