use Rattle.protobuf_writer.proofs.Adding.{no-text}
use Rattle.protobuf_writer.proofs.defaults.write_text.Goals as goal

pub returns-then-is_empty : goal.returns-then-is_empty
returns-then-is_empty c = no-text c.is_empty.result c.args.out.now.items c.args.number c.args.text.now c.is_empty.ensures c.if-is_empty.true
