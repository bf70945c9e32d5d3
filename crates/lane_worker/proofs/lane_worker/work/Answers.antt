use Rattle.std.proofs.Common.{◌∙◌, ap, refl}
use Rattle.std.specs.Prelude.{map}
use Rattle.lane_queue.specs.Ends.{queues}
use Rattle.lane_worker.specs.Serving.{lane_at, with_end}
use Rattle.lane_worker.proofs.Ends.{queues_end}
use Rattle.lane_worker.proofs.lane_worker.work.Goals as goal

pub returns-clause-works : goal.returns-clause-works
returns-clause-works g c =
    (lane_at c.serve_all-is_full.new.lane (g.Ledger.Counter.counted c.serve_all-is_full.new.counter), c.serve_all-is_full.ensures.served, refl, c.end_all-senders.ensures ∙ ap (map (with_end c.args.task.number)) c.end.ensures.ports)

pub returns-clause-same_queues : goal.returns-clause-same_queues
returns-clause-same_queues g c = ap queues c.end_all-senders.ensures ∙ (queues_end c.args.task.number c.end.result.ports.items ∙ (ap queues c.end.ensures.ports ∙ c.serve_all-is_full.ensures.same_queues))
