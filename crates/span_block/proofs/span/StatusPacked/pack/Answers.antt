use Rattle.protobuf_writer.specs.Defaults.{text_field}
use Rattle.protobuf_writer.proofs.Adding.{then}
use Rattle.otlp_protobuf_encode.specs.Writing.{enum_field}
use Rattle.otlp_protobuf_encode.proofs.MessagesBack.{status-back}
use Rattle.span_block.proofs.span.StatusPacked.pack.Goals as goal

pub returns-clause-bytes : goal.returns-clause-bytes
returns-clause-bytes c = then c.args.out.now.items c.pack_text.new.out.items c.pack_enumeration.new.out.items (text_field 2 c.args.self.now.message) (enum_field 3 c.args.self.now.code) c.in_ok-pack_text.ensures.bytes c.in_ok-pack_enumeration.ensures.bytes

pub returns-clause-holds : goal.returns-clause-holds
returns-clause-holds c = record { back = status-back c.args.self.now c.pack_text.ensures.text c.pack_enumeration.ensures.range; message = c.pack_text.ensures.text; code = c.pack_enumeration.ensures.range }
