use Rattle.std.proofs.Common.{refl}
use Rattle.otlp_json.specs.Writing.{event_table}
use Rattle.span_size.proofs.Objects.{object-added}
use Rattle.span_size.proofs.Counts.{then, then-both}
use Rattle.span_size.proofs.span.EventHasSize.count.Goals as goal

pub returns : goal.returns
returns c = object-added (event_table c.args.self.now) refl (then c.begin_nested.ensures.object (then-both _ _ _ c.attributes.ensures (then c.text.ensures (then c.u64.ensures c.end_nested.ensures.object))))
