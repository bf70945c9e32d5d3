use Rattle.std.proofs.Common.{◌++◌}
use Rattle.protobuf_writer.specs.Defaults.{text_field}
use Rattle.protobuf_writer.proofs.Adding.{then}
use Rattle.otlp_protobuf_encode.specs.Writing.{trace_field, span_field, parent_field}
use Rattle.otlp_protobuf_encode.proofs.span.write_head.Goals as goal

pub returns-clause-bytes : goal.returns-clause-bytes
returns-clause-bytes c = then c.args.out.now.items c.write_parent_id.new.out.items c.write_string-2.new.out.items (trace_field c.args.span.now.ids ++ span_field c.args.span.now.ids ++ text_field 3 c.args.span.now.trace_state ++ parent_field c.args.span.now.ids) (text_field 5 c.args.span.now.name) (then c.args.out.now.items c.write_string.new.out.items c.write_parent_id.new.out.items (trace_field c.args.span.now.ids ++ span_field c.args.span.now.ids ++ text_field 3 c.args.span.now.trace_state) (parent_field c.args.span.now.ids) (then c.args.out.now.items c.write_span_id.new.out.items c.write_string.new.out.items (trace_field c.args.span.now.ids ++ span_field c.args.span.now.ids) (text_field 3 c.args.span.now.trace_state) (then c.args.out.now.items c.write_trace_id.new.out.items c.write_span_id.new.out.items (trace_field c.args.span.now.ids) (span_field c.args.span.now.ids) c.in_ok-write_trace_id.ensures c.in_ok-write_span_id.ensures) c.in_ok-write_string.ensures.bytes) c.in_ok-write_parent_id.ensures) c.in_ok-write_string-2.ensures.bytes

pub returns-clause-back : goal.returns-clause-back
returns-clause-back c = record { trace_state = c.write_string.ensures.text; name = c.write_string-2.ensures.text }
