use Rattle.std.proofs.Common.{◌++◌}
use Rattle.protobuf_writer.specs.Defaults.{text_field}
use Rattle.protobuf_writer.proofs.Adding.{then}
use Rattle.otlp_protobuf_encode.specs.Writing.{trace_field, span_field, parent_field}
use Rattle.span_block.proofs.span.pack_head.Goals as goal

pub returns-clause-bytes : goal.returns-clause-bytes
returns-clause-bytes c = then c.args.out.now.items c.pack_parent_id.new.out.items c.pack_text-2.new.out.items (trace_field c.args.span.now.ids ++ span_field c.args.span.now.ids ++ text_field 3 c.args.span.now.trace_state ++ parent_field c.args.span.now.ids) (text_field 5 c.args.span.now.name) (then c.args.out.now.items c.pack_text.new.out.items c.pack_parent_id.new.out.items (trace_field c.args.span.now.ids ++ span_field c.args.span.now.ids ++ text_field 3 c.args.span.now.trace_state) (parent_field c.args.span.now.ids) (then c.args.out.now.items c.pack_span_id.new.out.items c.pack_text.new.out.items (trace_field c.args.span.now.ids ++ span_field c.args.span.now.ids) (text_field 3 c.args.span.now.trace_state) (then c.args.out.now.items c.pack_trace_id.new.out.items c.pack_span_id.new.out.items (trace_field c.args.span.now.ids) (span_field c.args.span.now.ids) c.in_ok-pack_trace_id.ensures c.in_ok-pack_span_id.ensures) c.in_ok-pack_text.ensures.bytes) c.in_ok-pack_parent_id.ensures) c.in_ok-pack_text-2.ensures.bytes

pub returns-clause-holds : goal.returns-clause-holds
returns-clause-holds c = record { trace_state = c.pack_text.ensures.text; name = c.pack_text-2.ensures.text }
