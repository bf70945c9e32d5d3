use Rattle.std.proofs.Common.{[], refl}
use Rattle.line_writing.proofs.Resting.{rest_more}
use Rattle.line_writing.proofs.rest.take_rest.Goals as goal

pub loop-init : goal.loop-init
loop-init g c = ([], refl, refl)

pub loop-preserved : goal.loop-preserved
loop-preserved g c = rest_more g.S.EntrySource.gives c.args.source.now c.loop.source c.take.new.self c.loop.lost c.saturating_add-lost.result c.in-Some-take._entry c.loop.invariant c.in-Some-take.ensures c.saturating_add-lost.ensures

pub returns-in_default : goal.returns-in_default
returns-in_default g c = record { entries = c.loop.invariant.0; between = c.loop.source; taken = c.loop.invariant.1; ends = c.in_default.ensures; counted = c.loop.invariant.2 }
