use Rattle.std.proofs.Common.{ap, sym}
use Rattle.lane_worker.specs.declared.lane_server.ByTurns.{ByTurns}
use Rattle.run_weave.proofs.ManyTurns.{by_turns}
use Rattle.span_sink.specs.Manners.{takes_all}
use Rattle.pipeline.proofs.Told.{servers_told, moved}
use Rattle.pipeline.proofs.running.run_by_turns.Goals as goal

pub returns-clause-ran : goal.returns-clause-ran
returns-clause-ran g c = moved takes_all _ g.TickSource.Ticks.gives c.args.config c.args.drivers.items c.args.ticks _ _ _ _ _ _ _ _ c.run_servers-lines.result.1
    (ap (λ s. s.taken) c.new-lines.ensures) (ap (λ s. s.failures) c.new-lines.ensures) (sym c.end.ensures.taken) (sym c.end.ensures.failures)
    (servers_told takes_all _ _ (by_turns (λ (s : ByTurns g.row.Poller.Denot). s.allowed) (λ (s : ByTurns g.row.Poller.Denot). s.driver) g.Poller.Driver.asks g.Poller.Driver.hears)
    g.TickSource.Ticks.gives c.args.config c.args.drivers.items c.args.ticks c.requires.ranges.some_shard c.requires.ranges.each_keeps _ _ _ _ c.run_servers-lines.result.1 c.run_servers-lines.ensures.ran)
