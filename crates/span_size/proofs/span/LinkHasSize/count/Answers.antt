use Rattle.std.proofs.Common.{refl}
use Rattle.otlp_json.specs.Writing.{link_table}
use Rattle.span_size.proofs.Objects.{object-added}
use Rattle.span_size.proofs.Counts.{then, then-both}
use Rattle.span_size.proofs.span.LinkHasSize.count.Goals as goal

pub returns : goal.returns
returns c = object-added (link_table c.args.self.now) refl (then c.begin_nested.ensures.object (then-both _ _ _ c.attributes.ensures (then c.u32.ensures (then c.text.ensures (then c.text-2.ensures (then c.text-3.ensures c.end_nested.ensures.object))))))
