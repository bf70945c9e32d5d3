use Rattle.protobuf_writer.proofs.Adding.{no-fixed32}
use Rattle.protobuf_writer.proofs.defaults.write_fixed32_unless_zero.Goals as goal

pub returns-then-value-eq0 : goal.returns-then-value-eq0
returns-then-value-eq0 c = no-fixed32 c.args.out.now.items c.args.number c.args.value c.if-value-eq0.true
