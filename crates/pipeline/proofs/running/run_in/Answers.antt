use Rattle.std.proofs.Common.{subst}
use Rattle.pipeline.specs.Outcome.{TellsSink}
use Rattle.pipeline.proofs.SinkWent.{answers}
use Rattle.pipeline.proofs.Told.{worked_tells}
use Rattle.pipeline.proofs.running.run_in.Goals as goal

pub returns-in-Ok-run_over-clause-sink : goal.returns-in-Ok-run_over-clause-sink
returns-in-Ok-run_over-clause-sink g c = answers c.args.exporter.sink c.in-Ok-run_over.exporter.sink c.answer_of-answer.result c.in-Ok-run_over.ensures.sink (subst (λ down. TellsSink down c.answer_of-answer.result) c.is_down.ensures c.answer_of-answer.ensures.sink)

pub returns-in-Ok-run_over-clause-ran : goal.returns-in-Ok-run_over-clause-ran
returns-in-Ok-run_over-clause-ran g c =
    let answer = c.answer_of-answer.ensures in
    let down = subst (λ down. TellsSink down c.answer_of-answer.result) c.is_down.ensures answer.sink in
    worked_tells g.Server.LaneServer.serves g.TickSource.Ticks.gives c.args.config.now c.args.servers.items c.args.ticks c.args.exporter c.in-Ok-run_over.exporter
    c.in-Ok-run_over.counted.counts.items c.in-Ok-run_over.counted.is_full c.in-Ok-run_over.ensures.worked c.answer_of-answer.result down answer.counts
