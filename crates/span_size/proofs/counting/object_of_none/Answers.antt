use Rattle.span_size.proofs.Counts.{then}
use Rattle.span_size.proofs.counting.object_of_none.Goals as goal

pub returns : goal.returns
returns c = then c.begin_nested.ensures.object c.end_nested.ensures.object
