use Rattle.protobuf_writer.proofs.Adding.{nothing}
use Rattle.span_block.proofs.span.pack_trace_id.Goals as goal

pub returns-in_default : goal.returns-in_default
returns-in_default c = rw c.in_default.is (nothing c.args.out.now.items)
