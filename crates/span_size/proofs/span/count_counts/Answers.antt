use Rattle.span_size.proofs.Counts.{then, then-both}
use Rattle.span_size.proofs.span.count_counts.Goals as goal

pub returns : goal.returns
returns c = then-both _ _ _ c.attributes.ensures (then c.u32.ensures c.u32-2.ensures)
