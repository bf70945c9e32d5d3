use Rattle.std.proofs.Common.{rules}
use Rattle.line_writing.proofs.OneMore.{put_or_lost}
use Rattle.line_writing.proofs.filling.fill.Goals as goal

pub loop-preserved : goal.loop-preserved
loop-preserved g c =
    put_or_lost g.S.EntrySource.gives (g.L.LineMaker.is_line c.args.maker.now) c.args.source.now c.loop.source c.take.new.self c.args.lines.now c.loop.lines c.loop.lost
    c.loop.invariant.0 c.in-Some.entry c.in-Some.ensures (search rules) c.put.new.self c.put.result c.if-not-put.lost c.loop.counter c.put.ensures.put c.put.ensures.same (search rules) (search rules) c.loop.invariant.1
