use Rattle.std.proofs.Common.{ap, sym}
use Rattle.lane_worker.specs.Serving.{connection}
use Rattle.lane_worker.specs.declared.lane_server.OneByOne.{OneByOne}
use Rattle.run_weave.proofs.OneByOne.{one_by_one}
use Rattle.span_sink.specs.Manners.{takes_all}
use Rattle.pipeline.proofs.Told.{servers_told, moved}
use Rattle.pipeline.proofs.running.run.Goals as goal

pub returns-clause-ran : goal.returns-clause-ran
returns-clause-ran g c = moved takes_all _ g.TickSource.Ticks.gives c.args.config c.args.servers.items c.args.ticks _ _ _ _ _ _ _ _ c.run_servers-lines.result.1
    (ap (λ s. s.taken) c.new-lines.ensures) (ap (λ s. s.failures) c.new-lines.ensures) (sym c.end.ensures.taken) (sym c.end.ensures.failures)
    (servers_told takes_all _ _ (one_by_one (λ (s : OneByOne g.row.Listener.Denot). s.acceptor) g.Listener.Acceptor.gives (λ x. connection (g.Listener.Reader.Source.given x.0) (g.Listener.Writer.Write.contents x.1)))
    g.TickSource.Ticks.gives c.args.config c.args.servers.items c.args.ticks c.requires.ranges.some_shard c.requires.ranges.each_keeps _ _ _ _ c.run_servers-lines.result.1 c.run_servers-lines.ensures.ran)
