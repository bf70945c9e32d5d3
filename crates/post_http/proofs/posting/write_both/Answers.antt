use Rattle.std.proofs.Common.{Bool, subst}
use Rattle.post_http.specs.Exchanges.{Puts}
use Rattle.post_http.proofs.Texts.{puts_first, puts_both}
use Rattle.post_http.proofs.posting.write_both.Goals as goal

pub returns-then-not-write_text : goal.returns-then-not-write_text
returns-then-not-write_text g c =
    let known = g.W.Write.contents in
    puts_first (known c.args.writer.now) (known c.write_text.new.writer) c.args.first.now c.args.second.now (subst (λ (b : Bool). Puts (known c.args.writer.now) (known c.write_text.new.writer) c.args.first.now b) c.if-not-write_text.true c.write_text.ensures)

pub returns : goal.returns
returns g c =
    let known = g.W.Write.contents in
    puts_both (known c.args.writer.now) (known c.write_text.new.writer) (known c.write_text-2.new.writer) c.args.first.now c.args.second.now c.write_text-2.result
    (subst (λ (b : Bool). Puts (known c.args.writer.now) (known c.write_text.new.writer) c.args.first.now b) c.if-not-write_text.false c.write_text.ensures) c.write_text-2.ensures
