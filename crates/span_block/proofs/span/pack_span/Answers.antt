use Rattle.std.proofs.Common.{◌++◌}
use Rattle.protobuf_writer.proofs.Adding.{then}
use Rattle.otlp_protobuf_encode.specs.Writing.{span_head, span_times, span_tail}
use Rattle.span_block.proofs.span.pack_span.Goals as goal

pub returns-clause-bytes : goal.returns-clause-bytes
returns-clause-bytes c = then c.args.out.now.items c.pack_times.new.out.items c.pack_tail.new.out.items (span_head c.args.span.now ++ span_times c.args.span.now) (span_tail c.args.span.now) (then c.args.out.now.items c.pack_head.new.out.items c.pack_times.new.out.items (span_head c.args.span.now) (span_times c.args.span.now) c.in_ok-pack_head.ensures.bytes c.in_ok-pack_times.ensures.bytes) c.in_ok-pack_tail.ensures.bytes

pub returns-clause-holds : goal.returns-clause-holds
returns-clause-holds c = record { head = c.in_ok-pack_head.ensures.holds; times = c.in_ok-pack_times.ensures.holds; parts = c.in_ok-pack_tail.ensures.holds }
