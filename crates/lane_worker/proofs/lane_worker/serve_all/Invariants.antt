use Rattle.std.proofs.Common.{◌≡◌, Bool}
use Rattle.lane_queue.specs.Ends.{queues}
use Rattle.lane_worker.specs.Serving.{LaneAt, connection, lane_at, HasServed}
use Rattle.lane_worker.proofs.lane_worker.serve_all.Given as goal

-- what is served from here on is, with what was served so far, all that is served
abbrev pub invariant-loop : goal.invariant-loop
invariant-loop g l = (queues l.lane.ports ≡ queues l.fn.lane.ports)
    × ((acceptor : g.row.Listener.Denot) (after : LaneAt) (is_full : Bool)
    → HasServed g.Listener.Acceptor.gives (λ x. connection (g.Listener.Reader.Source.given x.0) (g.Listener.Writer.Write.contents x.1)) g.QueueRoom.Room.capacity l.acceptor (lane_at l.lane (g.Ledger.Counter.counted l.counter)) acceptor after is_full
    → HasServed g.Listener.Acceptor.gives (λ x. connection (g.Listener.Reader.Source.given x.0) (g.Listener.Writer.Write.contents x.1)) g.QueueRoom.Room.capacity l.fn.acceptor (lane_at l.fn.lane (g.Ledger.Counter.counted l.fn.counter)) acceptor after is_full)
