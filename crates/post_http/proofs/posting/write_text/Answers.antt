use Rattle.std.proofs.Common.{◌≤◌, ◌+◌, ◌∙◌, take, length, arith, ap, subst, length-drop, ◌++◌}
use Rattle.std.specs.Io.KnownBytes.{Appends}
use Rattle.std.proofs.lemmas.List.{take_rest}
use Rattle.std.proofs.KnownBytes.{Appends-trans}
use Rattle.post_http.proofs.Texts.{take_then}
use Rattle.post_http.proofs.posting.write_text.Goals as goal

pub loop-at-preserved : goal.loop-at-preserved
loop-at-preserved g c =
    let at = c.loop-at.at in
    let text = c.args.text.now in
    let n = c.in-Ok.n in
    let known = g.W.Write.contents in
    let rest = take_rest text at in
    let fits : at + n ≤ length text = omega (arith, c.in-Ok.ensures.bound, ap length rest, length-drop at text, c.loop-at.invariant.0) in (
      fits,
      subst (Appends (known c.args.writer.now) (known c.write.new.self)) (ap (λ l. take at text ++ take n l) rest ∙ take_then at n text)
          (Appends-trans (known c.args.writer.now) (known c.loop-at.writer) (known c.write.new.self) (take at text) _ c.loop-at.invariant.1 c.in-Ok.ensures.bytes),
    )
