use Rattle.std.proofs.Common.{sym}
use Rattle.ottl_text.proofs.Numbers.{held-is, int-is-none}
use Rattle.ottl_text.proofs.literals.int_of.Goals as goal

pub returns-in-Ok : goal.returns-in-Ok
returns-in-Ok c = held-is c.args.digits.now _ c.in-Ok.ensures.0 c.in-Ok.ensures.1

pub returns-in-Err : goal.returns-in-Err
returns-in-Err c = sym (int-is-none c.args.digits.now c.in-Err.ensures)
