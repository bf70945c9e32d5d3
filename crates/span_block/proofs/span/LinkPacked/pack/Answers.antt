use Rattle.std.proofs.Common.{◌++◌}
use Rattle.protobuf_writer.specs.Defaults.{text_field, number_field, fixed32_field}
use Rattle.protobuf_writer.proofs.Adding.{then}
use Rattle.otlp_protobuf_encode.specs.Writing.{hex_field, attributes}
use Rattle.otlp_protobuf_encode.proofs.MessagesBack.{link-back}
use Rattle.span_block.proofs.Values.{pairs_back}
use Rattle.span_block.proofs.span.LinkPacked.pack.Goals as goal

pub returns-clause-bytes : goal.returns-clause-bytes
returns-clause-bytes c = then c.args.out.now.items c.pack_count.new.out.items c.pack_flags.new.out.items (hex_field 1 c.args.self.now.trace_id ++ hex_field 2 c.args.self.now.span_id ++ text_field 3 c.args.self.now.trace_state ++ attributes 4 c.args.self.now.attributes ++ number_field 5 c.args.self.now.dropped_attributes_count) (fixed32_field 6 c.args.self.now.flags) (then c.args.out.now.items c.list.new.out.items c.pack_count.new.out.items (hex_field 1 c.args.self.now.trace_id ++ hex_field 2 c.args.self.now.span_id ++ text_field 3 c.args.self.now.trace_state ++ attributes 4 c.args.self.now.attributes) (number_field 5 c.args.self.now.dropped_attributes_count) (then c.args.out.now.items c.pack_text.new.out.items c.list.new.out.items (hex_field 1 c.args.self.now.trace_id ++ hex_field 2 c.args.self.now.span_id ++ text_field 3 c.args.self.now.trace_state) (attributes 4 c.args.self.now.attributes) (then c.args.out.now.items c.pack_hex-2.new.out.items c.pack_text.new.out.items (hex_field 1 c.args.self.now.trace_id ++ hex_field 2 c.args.self.now.span_id) (text_field 3 c.args.self.now.trace_state) (then c.args.out.now.items c.pack_hex.new.out.items c.pack_hex-2.new.out.items (hex_field 1 c.args.self.now.trace_id) (hex_field 2 c.args.self.now.span_id) c.in_ok-pack_hex.ensures.bytes c.in_ok-pack_hex-2.ensures.bytes) c.in_ok-pack_text.ensures.bytes) c.in_ok-list.ensures.bytes) c.in_ok-pack_count.ensures.bytes) c.in_ok-pack_flags.ensures.bytes

pub returns-clause-holds : goal.returns-clause-holds
returns-clause-holds c = link-back c.args.self.now c.pack_text.ensures.text (pairs_back c.args.self.now.attributes c.in_ok-list.ensures.holds) c.pack_count.ensures.range c.pack_flags.ensures.range
