use Rattle.protobuf_writer.proofs.Adding.{nothing}
use Rattle.span_block.proofs.span.pack_parent_id.Goals as goal

pub returns-in_default : goal.returns-in_default
returns-in_default c = rw c.in_default.is (nothing c.args.out.now.items)

pub returns-in_default-parent : goal.returns-in_default-parent
returns-in_default-parent c = rw (c.in-Some.is, c.in_default-parent.is) (nothing c.args.out.now.items)
