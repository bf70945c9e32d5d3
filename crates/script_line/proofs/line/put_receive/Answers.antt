use Rattle.script_line.proofs.Appended.{on-ok-more}
use Rattle.script_line.proofs.Back.{receive-reads}
use Rattle.script_line.proofs.line.put_receive.Goals as goal

pub returns-else-is_err-clause-back : goal.returns-else-is_err-clause-back
returns-else-is_err-clause-back c =
    let ranges = c.append_receive-put.ensures.ranges in
    on-ok-more c.append_receive-put.result (receive-reads c.args.connection c.args.moment c.args.body.now ranges.0 ranges.1) c.append_receive-put.ensures.fits
