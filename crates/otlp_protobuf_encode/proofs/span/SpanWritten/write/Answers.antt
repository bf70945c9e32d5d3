use Rattle.std.proofs.Common.{◌++◌}
use Rattle.protobuf_writer.proofs.Adding.{then}
use Rattle.otlp_protobuf_encode.specs.Writing.{span_head, span_times, span_tail}
use Rattle.otlp_protobuf_encode.proofs.SpansBack.{span-back}
use Rattle.otlp_protobuf_encode.proofs.span.SpanWritten.write.Goals as goal

pub returns-clause-bytes : goal.returns-clause-bytes
returns-clause-bytes c = then c.args.out.now.items c.write_times.new.out.items c.write_tail.new.out.items (span_head c.args.self.now ++ span_times c.args.self.now) (span_tail c.args.self.now) (then c.args.out.now.items c.write_head.new.out.items c.write_times.new.out.items (span_head c.args.self.now) (span_times c.args.self.now) c.in_ok-write_head.ensures.bytes c.in_ok-write_times.ensures.bytes) c.in_ok-write_tail.ensures.bytes

pub returns-clause-back : goal.returns-clause-back
returns-clause-back c = span-back c.args.self.now c.in_ok-write_head.ensures.back c.in_ok-write_times.ensures.back c.in_ok-write_tail.ensures.back
