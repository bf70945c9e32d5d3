use Rattle.span_size.proofs.Objects.{span-added}
use Rattle.span_size.proofs.span.SpanHasSize.count.Goals as goal

pub returns : goal.returns
returns c = span-added c.args.self.now c.begin_nested.ensures.object c.count_counts.ensures c.count_head.ensures c.count_tail.ensures c.end_nested.ensures.object
