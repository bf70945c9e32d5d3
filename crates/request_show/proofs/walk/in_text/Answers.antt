use Rattle.std.proofs.Common.{Some, ap, ◌∙◌}
use Rattle.request_show.proofs.Texts.{is_text, is_no_text}
use Rattle.request_show.proofs.walk.in_text.Goals as goal

pub returns-in-Ok : goal.returns-in-Ok
returns-in-Ok c = is_text c.args.at c.args.held.now c.in-Ok.ensures.cases.1

pub returns-in-Err : goal.returns-in-Err
returns-in-Err c = ap Some c.fault_at.ensures ∙ is_no_text c.args.at c.args.held.now c.in-Err.ensures.cases.0
