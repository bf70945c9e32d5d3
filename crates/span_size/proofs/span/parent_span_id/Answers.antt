use Rattle.span_size.proofs.Counts.{nothing}
use Rattle.span_size.proofs.span.parent_span_id.Goals as goal

pub returns-in_default : goal.returns-in_default
returns-in_default c = rw c.in_default.is (nothing c.args.out.now)

pub returns-in_default-parent : goal.returns-in_default-parent
returns-in_default-parent c = rw (c.in-Some.is, c.in_default-parent.is) (nothing c.args.out.now)

pub returns-in-Some-parent : goal.returns-in-Some-parent
returns-in-Some-parent c = rw (c.in-Some.is, c.in-Some-parent.is) (rw c.bytes.ensures at c.id_member.ensures)
