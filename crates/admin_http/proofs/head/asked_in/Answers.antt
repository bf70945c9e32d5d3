use Rattle.std.proofs.Common.{sym}
use Rattle.admin_http.proofs.Heads.{head_there}
use Rattle.admin_http.proofs.head.asked_in.Goals as goal

pub asked_by_head-requires : goal.asked_by_head-requires
asked_by_head-requires c = head_there c.args.text.now c.judge.result c.judge.ensures (sym c.in-None.ensures)
