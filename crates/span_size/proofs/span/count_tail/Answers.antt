use Rattle.span_size.proofs.Counts.{then}
use Rattle.span_size.proofs.span.count_tail.Goals as goal

pub returns : goal.returns
returns c = then (rw c.as_slice.ensures at c.list.ensures) (then c.text.ensures (then c.parent_span_id.ensures (then c.span_id.ensures (then c.u64.ensures (then c.status_of.ensures (then c.trace_id.ensures c.text-2.ensures))))))
