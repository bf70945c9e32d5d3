use Rattle.span_size.proofs.Counts.{nothing}
use Rattle.span_size.proofs.span.trace_id.Goals as goal

pub returns-in_default : goal.returns-in_default
returns-in_default c = rw c.in_default.is (nothing c.args.out.now)

pub returns-in-Some : goal.returns-in-Some
returns-in-Some c = rw c.in-Some.is (rw c.bytes.ensures at c.id_member.ensures)
