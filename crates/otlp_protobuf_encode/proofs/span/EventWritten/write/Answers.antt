use Rattle.std.proofs.Common.{◌++◌}
use Rattle.protobuf_writer.specs.Defaults.{text_field, number_field, fixed64_field}
use Rattle.protobuf_writer.proofs.Adding.{then}
use Rattle.otlp_protobuf_encode.specs.Writing.{attributes}
use Rattle.otlp_protobuf_encode.proofs.MessagesBack.{event-back}
use Rattle.otlp_protobuf_encode.proofs.span.EventWritten.write.Goals as goal

pub returns-clause-bytes : goal.returns-clause-bytes
returns-clause-bytes c = then c.args.out.now.items c.list.new.out.items c.write_count.new.out.items (fixed64_field 1 c.args.self.now.time_unix_nano ++ text_field 2 c.args.self.now.name ++ attributes 3 c.args.self.now.attributes) (number_field 4 c.args.self.now.dropped_attributes_count) (then c.args.out.now.items c.write_string.new.out.items c.list.new.out.items (fixed64_field 1 c.args.self.now.time_unix_nano ++ text_field 2 c.args.self.now.name) (attributes 3 c.args.self.now.attributes) (then c.args.out.now.items c.write_time.new.out.items c.write_string.new.out.items (fixed64_field 1 c.args.self.now.time_unix_nano) (text_field 2 c.args.self.now.name) c.in_ok-write_time.ensures.bytes c.in_ok-write_string.ensures.bytes) c.in_ok-list.ensures.bytes) c.in_ok-write_count.ensures.bytes

pub returns-clause-back : goal.returns-clause-back
returns-clause-back c = event-back c.args.self.now c.write_time.ensures.range c.write_string.ensures.text c.in_ok-list.ensures.back c.write_count.ensures.range
