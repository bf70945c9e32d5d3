use Rattle.std.proofs.Common.{arith}
use Rattle.message_cursor.proofs.Fronts.{at_end, long_tag}
use Rattle.message_cursor.proofs.front.is_passed.Goals as goal

pub returns-then-sent-eq0 : goal.returns-then-sent-eq0
returns-then-sent-eq0 c = at_end c.args.wanted c.args.sent.now (omega arith)

pub returns : goal.returns
returns c = long_tag c.args.wanted c.args.sent.now (omega arith) (omega arith) (omega arith) (omega (arith, c.type_inv.sent 0)) (omega arith) (omega arith)
