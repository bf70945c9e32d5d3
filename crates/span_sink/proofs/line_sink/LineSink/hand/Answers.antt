use Rattle.std.proofs.Common.{refl, subst}
use Rattle.span_sink.specs.LineSinks.{LineSinkState, FailsInside, down_state}
use Rattle.span_sink.proofs.Lines.{fails_inside}
use Rattle.span_sink.proofs.line_sink.LineSink.hand.Goals as goal

pub returns-then-write_whole-line : goal.returns-then-write_whole-line
returns-then-write_whole-line g c =
    let line = c.args.line.now in
    let sink = c.write_whole.new.sink in
    let new = down_state (g.S.Sink.taken sink) (g.S.Sink.failures sink) in
    let short = c.if-write_whole-line.true in
    subst (λ (s : LineSinkState). FailsInside s line new) c.self.view_is
    (fails_inside _ new line c.write_whole.result short c.write_whole.ensures.taken
    (c.write_whole.ensures.part short) c.if-self.false refl)
