use Rattle.std.proofs.Common.{sym, subst}
use Rattle.run_weave.specs.Jobs.{LaneDid}
use Rattle.run_weave.specs.Workers.{zeros}
use Rattle.pipeline.proofs.lane_job.LaneJobJob.work.Goals as goal

pub returns : goal.returns
returns g c =
    let w = c.work-end.ensures.works in
    subst
    (λ counts. LaneDid g.Server.LaneServer.serves g.QueueRoom.Room.capacity c.args.self.number c.args.self.acceptor c.args.self.lane zeros c.work-end.result.senders.items
    counts c.work-end.result.is_full)
    (sym c.end-report.ensures)
    (subst
    (λ counts. LaneDid g.Server.LaneServer.serves g.QueueRoom.Room.capacity c.args.self.number c.args.self.acceptor c.args.self.lane counts c.work-end.result.senders.items
    c.work-end.new.counter.report c.work-end.result.is_full)
    c.new-counts.ensures
    (record {
      last = c.work-end.new.server;
      after = w.0;
      served = w.1;
      counts = w.2;
      ends = w.3;
      same_queues = c.work-end.ensures.same_queues;
    }))
