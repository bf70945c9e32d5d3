use Rattle.lane_worker.proofs.Kept.{turns_kept}
use Rattle.lane_worker.proofs.lane_server.ByTurnsLaneServer.serve_all.Goals as goal

pub returns-clause-same_queues : goal.returns-clause-same_queues
returns-clause-same_queues g c = turns_kept g.QueueRoom.Room.capacity _ _ _ _ c.serve_turns.ensures.served.fits.did
