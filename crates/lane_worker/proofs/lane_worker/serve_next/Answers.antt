use Rattle.lane_worker.proofs.Kept.{kept}
use Rattle.lane_worker.proofs.lane_worker.serve_next.Goals as goal

pub returns-clause-same_queues : goal.returns-clause-same_queues
returns-clause-same_queues g c = kept g.QueueRoom.Room.capacity _ _ _ c.serve-end.ensures.served.1.3.3
