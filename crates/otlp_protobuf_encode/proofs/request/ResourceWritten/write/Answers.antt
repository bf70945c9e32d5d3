use Rattle.protobuf_writer.specs.Defaults.{number_field}
use Rattle.protobuf_writer.proofs.Adding.{then}
use Rattle.otlp_protobuf_encode.specs.Writing.{attributes}
use Rattle.otlp_protobuf_encode.proofs.RequestsBack.{resource-back}
use Rattle.otlp_protobuf_encode.proofs.request.ResourceWritten.write.Goals as goal

pub returns-clause-bytes : goal.returns-clause-bytes
returns-clause-bytes c = then c.args.out.now.items c.list.new.out.items c.write_count.new.out.items (attributes 1 c.args.self.now.attributes) (number_field 2 c.args.self.now.dropped_attributes_count) c.in_ok-list.ensures.bytes c.in_ok-write_count.ensures.bytes

pub returns-clause-back : goal.returns-clause-back
returns-clause-back c = resource-back c.args.self.now c.in_ok-list.ensures.back c.write_count.ensures.range
