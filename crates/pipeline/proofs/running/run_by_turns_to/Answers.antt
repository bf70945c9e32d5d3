use Rattle.lane_worker.specs.declared.lane_server.ByTurns.{ByTurns}
use Rattle.run_weave.proofs.ManyTurns.{by_turns}
use Rattle.pipeline.proofs.Told.{servers_told}
use Rattle.pipeline.proofs.running.run_by_turns_to.Goals as goal

pub returns-clause-ran : goal.returns-clause-ran
returns-clause-ran g c = servers_told g.Output.Destination.manner _ _ (by_turns (λ (s : ByTurns g.row.Poller.Denot). s.allowed) (λ (s : ByTurns g.row.Poller.Denot). s.driver) g.Poller.Driver.asks g.Poller.Driver.hears)
    g.TickSource.Ticks.gives c.args.config c.args.drivers.items c.args.ticks c.requires.ranges.some_shard c.requires.ranges.each_keeps _ _ _ _ c.run_servers.result.1 c.run_servers.ensures.ran
