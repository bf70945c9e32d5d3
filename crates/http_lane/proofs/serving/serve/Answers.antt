use Rattle.std.proofs.Common.{ℕ, List, subst, sym}
use Rattle.lane_seq.specs.declared.preparing.Conn.{Conn}
use Rattle.http_lane.specs.Intake.{Submits, intake, first_conn, connected}
use Rattle.http_lane.specs.Connection.{ReadRound, submissions, events_of}
use Rattle.http_lane.specs.Engine.{Served}
use Rattle.http_lane.specs.Telling.{TellsTaken, AreHeard, taken_of}
use Rattle.http_lane.specs.declared.answer.ServeEnd.TheVariants.{NoMemory}
use Rattle.http_lane.proofs.EventLemmas.{served_nothing}
use Rattle.http_lane.proofs.serving.serve.Goals as goal

pub returns-in-Ok : goal.returns-in-Ok
returns-in-Ok g c =
    let counted = g.Ledger.Counter.counted in
    let heard = g.Time.Clock.heard c.args.lent.now.clock.now in
    let new = c.serve_turns.new in
    let first = first_conn c.args.lane.now in
    let known = g.Reader.Source.given in
    let submits = Submits g.ShardPort.Port.takes g.ShardPort.Port.refuses in
    let told = subst (λ l. (served : Served submits (g.Writer.Write.contents c.args.writer.now) (g.Writer.Write.contents new.writer) (intake l first (counted c.args.counter.now)) (intake new.lane new.conn (counted new.counts)) (known c.args.reader.now) (known new.reader) c.serve_turns.result)
    × TellsTaken heard 0 new.told first.key new.conn.key (submissions (events_of served.0))) c.connect-conn.ensures.counted
    (subst (λ (k : Conn). (served : Served submits (g.Writer.Write.contents c.args.writer.now) (g.Writer.Write.contents new.writer) (intake c.connect-conn.new.self k (counted c.args.counter.now)) (intake new.lane new.conn (counted new.counts)) (known c.args.reader.now) (known new.reader) c.serve_turns.result)
    × TellsTaken heard 0 new.told k.key new.conn.key (submissions (events_of served.0))) c.connect-conn.ensures.conn
    (subst (λ (n : ℕ). (served : Served submits (g.Writer.Write.contents c.args.writer.now) (g.Writer.Write.contents new.writer) (intake c.connect-conn.new.self c.connect-conn.result (counted c.args.counter.now)) (intake new.lane new.conn (counted new.counts)) (known c.args.reader.now) (known new.reader) c.serve_turns.result)
    × TellsTaken heard n new.told c.connect-conn.result.key new.conn.key (submissions (events_of served.0))) c.new-told.ensures c.serve_turns.ensures)) in
    record { served = (new.conn, told.0); told = (new.conn, told.0, told.1.told) }

pub returns : goal.returns
returns g c =
    let lane = c.args.lane.now in
    let conn = first_conn lane in
    let counted = g.Ledger.Counter.counted c.args.counter.now in
    let text = g.Writer.Write.contents c.args.writer.now in
    let reader = g.Reader.Source.given c.args.reader.now in
    let heard = g.Time.Clock.heard c.args.lent.now.clock.now in
    let submits = Submits g.ShardPort.Port.takes g.ShardPort.Port.refuses in
    let nothing = served_nothing submits text (intake (connected lane) conn counted) reader in
    let told = subst (λ l. (served : Served submits text text (intake (connected lane) conn counted) (intake l conn counted) reader reader NoMemory) × AreHeard heard 0 (taken_of conn.key (submissions (events_of served.0))))
    (sym c.connect-conn.ensures.counted) (nothing.0, subst (λ (rounds : List ReadRound). AreHeard heard 0 (taken_of conn.key (submissions (events_of rounds)))) (sym nothing.1) tt) in
    record { served = (conn, told.0); told = (conn, told.0, told.1) }
