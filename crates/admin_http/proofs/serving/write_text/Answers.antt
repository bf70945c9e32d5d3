use Rattle.http_text.proofs.Writing.{written_on}
use Rattle.admin_http.proofs.serving.write_text.Goals as goal

pub loop-at-preserved : goal.loop-at-preserved
loop-at-preserved g c =
    let known = g.W.Write.contents in
    written_on (known c.args.writer.now) (known c.loop-at.writer) (known c.write.new.self) c.args.text.now c.loop-at.at
    c.in-Ok.n c.loop-at.invariant.0 c.in-Ok.ensures.bound c.loop-at.invariant.1 c.in-Ok.ensures.bytes
