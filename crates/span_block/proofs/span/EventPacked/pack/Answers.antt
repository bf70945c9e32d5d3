use Rattle.std.proofs.Common.{◌++◌}
use Rattle.protobuf_writer.specs.Defaults.{text_field, number_field, fixed64_field}
use Rattle.protobuf_writer.proofs.Adding.{then}
use Rattle.otlp_protobuf_encode.specs.Writing.{attributes}
use Rattle.otlp_protobuf_encode.proofs.MessagesBack.{event-back}
use Rattle.span_block.proofs.Values.{pairs_back}
use Rattle.span_block.proofs.span.EventPacked.pack.Goals as goal

pub returns-clause-bytes : goal.returns-clause-bytes
returns-clause-bytes c = then c.args.out.now.items c.list.new.out.items c.pack_count.new.out.items (fixed64_field 1 c.args.self.now.time_unix_nano ++ text_field 2 c.args.self.now.name ++ attributes 3 c.args.self.now.attributes) (number_field 4 c.args.self.now.dropped_attributes_count) (then c.args.out.now.items c.pack_text.new.out.items c.list.new.out.items (fixed64_field 1 c.args.self.now.time_unix_nano ++ text_field 2 c.args.self.now.name) (attributes 3 c.args.self.now.attributes) (then c.args.out.now.items c.pack_time.new.out.items c.pack_text.new.out.items (fixed64_field 1 c.args.self.now.time_unix_nano) (text_field 2 c.args.self.now.name) c.in_ok-pack_time.ensures.bytes c.in_ok-pack_text.ensures.bytes) c.in_ok-list.ensures.bytes) c.in_ok-pack_count.ensures.bytes

pub returns-clause-holds : goal.returns-clause-holds
returns-clause-holds c = event-back c.args.self.now c.pack_time.ensures.range c.pack_text.ensures.text (pairs_back c.args.self.now.attributes c.in_ok-list.ensures.holds) c.pack_count.ensures.range
