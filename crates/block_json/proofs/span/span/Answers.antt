use Rattle.block_json.proofs.Adding.{span-added}
use Rattle.block_json.proofs.span.span.Goals as goal

pub returns : goal.returns
returns g c s is =
    let p = c.parts-parts.ensures s is in
    span-added g.met.S.TokenSink.composes s c.args.out.now c.begin_object.new.self c.counts.new.out c.head.new.out c.tail.new.out c.end_object.new.self c.begin_object.ensures (c.counts.ensures s p) (c.head.ensures s p) (c.tail.ensures s p) c.end_object.ensures
