use Rattle.script_line.proofs.Appended.{on-ok}
use Rattle.script_line.proofs.Back.{tick-reads}
use Rattle.script_line.proofs.line.put_tick.Goals as goal

pub returns-else-is_err-clause-back : goal.returns-else-is_err-clause-back
returns-else-is_err-clause-back c = on-ok c.append_tick-put.result (tick-reads c.args.moment c.append_tick-put.ensures.range)
