use Rattle.std.proofs.Common.{◌≤◌}
use Rattle.http_lane.specs.Intake.{Submits, intake}
use Rattle.http_lane.specs.Connection.{submissions, events_of}
use Rattle.http_lane.specs.Telling.{TellsTaken}
use Rattle.http_lane.proofs.EventLemmas.{Serving}
use Rattle.http_lane.proofs.serving.serve_turns.Given as goal

abbrev pub invariant-loop : goal.invariant-loop
invariant-loop g l =
    (l.row ≤ l.counter) × (s : Serving g.Parser.Engine.awaits (Submits g.ShardPort.Port.takes g.ShardPort.Port.refuses) (g.Writer.Write.contents l.fn.writer) (g.Writer.Write.contents l.writer) (intake l.fn.lane l.fn.conn (g.Ledger.Counter.counted l.fn.counts)) (intake l.lane l.conn (g.Ledger.Counter.counted l.counts))
    (g.Reader.Source.given l.fn.reader) (g.Reader.Source.given l.reader) l.engine l.row l.counter)
    × TellsTaken (g.Time.Clock.heard l.lent.clock.now) l.fn.told l.told l.fn.conn.key l.conn.key (submissions (events_of s.rounds))
