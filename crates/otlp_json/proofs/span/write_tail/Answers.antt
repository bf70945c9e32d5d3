use Rattle.otlp_json.proofs.Adding.{then}
use Rattle.otlp_json.proofs.span.write_tail.Goals as goal

pub returns-clause-fields : goal.returns-clause-fields
returns-clause-fields c = then c.args.out.now c.list.new.out c.text-2.new.out _ _ (rw c.as_slice.ensures at c.in_ok-list.ensures.field) (then c.list.new.out c.text.new.out c.text-2.new.out _ _ c.in_ok-text.ensures (then c.text.new.out c.parent_span_id.new.out c.text-2.new.out _ _ c.in_ok-parent_span_id.ensures.field (then c.parent_span_id.new.out c.span_id.new.out c.text-2.new.out _ _ c.in_ok-span_id.ensures.field (then c.span_id.new.out c.u64.new.out c.text-2.new.out _ _ c.in_ok-u64.ensures.field (then c.u64.new.out c.status_of.new.out c.text-2.new.out _ _ c.in_ok-status_of.ensures.field (then c.status_of.new.out c.trace_id.new.out c.text-2.new.out _ _ c.in_ok-trace_id.ensures.field c.in_ok-text-2.ensures))))))
