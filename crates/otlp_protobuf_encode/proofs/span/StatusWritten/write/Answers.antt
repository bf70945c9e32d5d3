use Rattle.protobuf_writer.specs.Defaults.{text_field}
use Rattle.protobuf_writer.proofs.Adding.{then}
use Rattle.otlp_protobuf_encode.specs.Writing.{enum_field}
use Rattle.otlp_protobuf_encode.proofs.MessagesBack.{status-back}
use Rattle.otlp_protobuf_encode.proofs.span.StatusWritten.write.Goals as goal

pub returns-clause-bytes : goal.returns-clause-bytes
returns-clause-bytes c = then c.args.out.now.items c.write_string.new.out.items c.write_enumeration.new.out.items (text_field 2 c.args.self.now.message) (enum_field 3 c.args.self.now.code) c.in_ok-write_string.ensures.bytes c.in_ok-write_enumeration.ensures.bytes

pub returns-clause-back : goal.returns-clause-back
returns-clause-back c = status-back c.args.self.now c.write_string.ensures.text c.write_enumeration.ensures.range
