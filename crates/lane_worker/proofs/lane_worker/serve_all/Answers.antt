use Rattle.std.proofs.Common.{◌∙◌, refl, sym, false, true}
use Rattle.lane_worker.specs.Serving.{connection, lane_at}
use Rattle.lane_worker.proofs.Served.{served_none, served_most, served_full, served_more}
use Rattle.lane_worker.proofs.lane_worker.serve_all.Goals as goal

pub loop-init : goal.loop-init
loop-init g c = (refl, λ acceptor after is_full h. h)

pub returns-then-connected-eq18446744073709551615-clause-served : goal.returns-then-connected-eq18446744073709551615-clause-served
returns-then-connected-eq18446744073709551615-clause-served g c =
    let now = lane_at c.loop.lane (g.Ledger.Counter.counted c.loop.counter) in
    c.loop.invariant.1 c.loop.acceptor now false (served_most g.Listener.Acceptor.gives (λ (x : g.row.Listener-Reader.Denot × g.row.Listener-Writer.Denot). connection (g.Listener.Reader.Source.given x.0) (g.Listener.Writer.Write.contents x.1)) g.QueueRoom.Room.capacity
    c.loop.acceptor now (sym c.connected.ensures ∙ c.if-connected-eq18446744073709551615.true))

pub returns-then-connected-eq18446744073709551615-clause-same_queues : goal.returns-then-connected-eq18446744073709551615-clause-same_queues
returns-then-connected-eq18446744073709551615-clause-same_queues g c = c.loop.invariant.0

pub returns-in_default-clause-served : goal.returns-in_default-clause-served
returns-in_default-clause-served g c =
    let now = lane_at c.loop.lane (g.Ledger.Counter.counted c.loop.counter) in
    c.loop.invariant.1 c.next-in-loop.new.self now false (served_none g.Listener.Acceptor.gives (λ (x : g.row.Listener-Reader.Denot × g.row.Listener-Writer.Denot). connection (g.Listener.Reader.Source.given x.0) (g.Listener.Writer.Write.contents x.1)) g.QueueRoom.Room.capacity
    c.loop.acceptor c.next-in-loop.new.self now c.in_default.ensures)

pub returns-in_default-clause-same_queues : goal.returns-in_default-clause-same_queues
returns-in_default-clause-same_queues g c = c.loop.invariant.0

pub returns-then-is_overflow-clause-served : goal.returns-then-is_overflow-clause-served
returns-then-is_overflow-clause-served g c =
    let now = lane_at c.loop.lane (g.Ledger.Counter.counted c.loop.counter) in
    let next = lane_at c.serve_next-end.new.lane (g.Ledger.Counter.counted c.serve_next-end.new.counter) in
    c.loop.invariant.1 c.next-in-loop.new.self next true (served_full g.Listener.Acceptor.gives (λ (x : g.row.Listener-Reader.Denot × g.row.Listener-Writer.Denot). connection (g.Listener.Reader.Source.given x.0) (g.Listener.Writer.Write.contents x.1)) g.QueueRoom.Room.capacity
    c.loop.acceptor c.next-in-loop.new.self now next (c.in-Some-next.reader, c.in-Some-next.writer) c.serve_next-end.result c.in-Some-next.ensures c.serve_next-end.ensures.served (sym c.is_overflow.ensures ∙ c.if-is_overflow.true))

pub returns-then-is_overflow-clause-same_queues : goal.returns-then-is_overflow-clause-same_queues
returns-then-is_overflow-clause-same_queues g c = c.serve_next-end.ensures.same_queues ∙ c.loop.invariant.0

pub loop-preserved : goal.loop-preserved
loop-preserved g c =
    let now = lane_at c.loop.lane (g.Ledger.Counter.counted c.loop.counter) in
    let next = lane_at c.serve_next-end.new.lane (g.Ledger.Counter.counted c.serve_next-end.new.counter) in (
      c.serve_next-end.ensures.same_queues ∙ c.loop.invariant.0,
      λ acceptor after is_full rest. c.loop.invariant.1 acceptor after is_full (served_more g.Listener.Acceptor.gives (λ (x : g.row.Listener-Reader.Denot × g.row.Listener-Writer.Denot). connection (g.Listener.Reader.Source.given x.0) (g.Listener.Writer.Write.contents x.1)) g.QueueRoom.Room.capacity
          c.loop.acceptor c.next-in-loop.new.self acceptor now next after is_full (c.in-Some-next.reader, c.in-Some-next.writer) c.serve_next-end.result c.in-Some-next.ensures c.serve_next-end.ensures.served (sym c.is_overflow.ensures ∙ c.if-is_overflow.false) rest),
    )
