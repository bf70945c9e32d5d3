use Rattle.span_size.proofs.Counts.{then}
use Rattle.span_size.proofs.span.attributes.Goals as goal

pub returns : goal.returns
returns c = then (rw c.as_slice.ensures at c.list.ensures) c.u32.ensures
