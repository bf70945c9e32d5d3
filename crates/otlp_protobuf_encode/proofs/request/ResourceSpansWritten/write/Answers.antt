use Rattle.std.proofs.Common.{◌++◌, map}
use Rattle.protobuf_writer.specs.Defaults.{text_field, message_field, repeated}
use Rattle.protobuf_writer.proofs.Adding.{then}
use Rattle.otlp_protobuf_encode.specs.Writing.{resource_fields, scope_spans_fields}
use Rattle.otlp_protobuf_encode.proofs.RequestsBack.{resource_spans-back}
use Rattle.otlp_protobuf_encode.proofs.request.ResourceSpansWritten.write.Goals as goal

pub returns-clause-bytes : goal.returns-clause-bytes
returns-clause-bytes c = then c.args.out.now.items c.list.new.out.items c.write_string.new.out.items (message_field 1 (resource_fields c.args.self.now.resource) ++ repeated 2 (map scope_spans_fields c.args.self.now.scope_spans)) (text_field 3 c.args.self.now.schema_url) (then c.args.out.now.items c.write_resource.new.out.items c.list.new.out.items (message_field 1 (resource_fields c.args.self.now.resource)) (repeated 2 (map scope_spans_fields c.args.self.now.scope_spans)) c.in_ok-write_resource.ensures.bytes c.in_ok-list.ensures.bytes) c.in_ok-write_string.ensures.bytes

pub returns-clause-back : goal.returns-clause-back
returns-clause-back c = resource_spans-back c.args.self.now c.in_ok-write_resource.ensures.back c.in_ok-list.ensures.back c.write_string.ensures.text
