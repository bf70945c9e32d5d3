use Rattle.std.proofs.Common.{Some, None, refl}
use Rattle.http_text.specs.Lines.{Whole, Waits, TooLong, head_len}
use Rattle.admin_http.proofs.Heads.{from_blank, heard_at}
use Rattle.admin_http.proofs.head.heard.Goals as goal

pub returns-in-Whole : goal.returns-in-Whole
returns-in-Whole c =
    let read = c.args.read.now in heard_at c.args.access read (Whole c.in-Whole.n) (Some c.asked_in.result) (c.in-Whole.ensures.cuts head_len (from_blank read)).0 c.asked_in.ensures

pub returns-in-Waits : goal.returns-in-Waits
returns-in-Waits c = let read = c.args.read.now in heard_at c.args.access read Waits None (c.in-Waits.ensures.cuts head_len (from_blank read)).0 tt

pub returns-in-TooLong : goal.returns-in-TooLong
returns-in-TooLong c = let read = c.args.read.now in heard_at c.args.access read TooLong (Some _) (c.in-TooLong.ensures.cuts head_len (from_blank read)) refl
