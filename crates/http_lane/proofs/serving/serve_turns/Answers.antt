use Rattle.std.proofs.Common.{◌≡◌, ◌<◌, ◌≤◌, ◌+◌, ap, refl, sym, subst, [], false, arith, take, length, Some}
use Rattle.std.proofs.lemmas.List.{length-take}
use Rattle.http_lane.specs.Intake.{Submits, intake}
use Rattle.http_lane.specs.declared.answer.ServeEnd.TheVariants.{ReadFault}
use Rattle.http_lane.specs.declared.answer.TheConstants.{READ_LIMIT}
use Rattle.http_lane.specs.Connection.{gave, quiet, interrupted, failed, ended, grown, standing, submissions, events_of}
use Rattle.http_lane.specs.Telling.{TellsTaken}
use Rattle.http_lane.proofs.TellingLemmas.{tells_none, tells_round, tells_still}
use Rattle.http_lane.proofs.EventLemmas.{serving_first, serving_more, serving_end, serving_stop, serving_over, does_none, does_still, settled_rests}
use Rattle.http_lane.proofs.serving.serve_turns.Goals as goal
use Rattle.http_lane.proofs.serving.serve_turns.Goals.{in-Gave+in_default, in-Quiet+in_default-wait, in-Interrupted}

pub loop-init : goal.loop-init
loop-init g c = let first = serving_first g.Parser.Engine.awaits (Submits g.ShardPort.Port.takes g.ShardPort.Port.refuses) (g.Writer.Write.contents c.args.writer.now) (intake c.args.lane.now c.args.conn.now (g.Ledger.Counter.counted c.args.counts.now))
    (g.Reader.Source.given c.args.reader.now) c.args.engine.now c.requires in (
      omega arith,
      first.0,
      subst (λ rounds. TellsTaken (g.Time.Clock.heard c.args.lent.now.clock.now) c.args.told.now c.args.told.now c.args.conn.now.key c.args.conn.now.key (submissions (events_of rounds))) (sym first.1) (tells_none (g.Time.Clock.heard c.args.lent.now.clock.now) c.args.told.now c.args.conn.now.key),
    )

pub returns-in-Some : goal.returns-in-Some
returns-in-Some g c =
    let s = c.loop.invariant.1 in
    let bytes = take c.in-Gave.n c.turn.new.piece in
    let settled = c.in-Some.ensures (grown s.last.reading bytes) (c.take.ensures s.last.reading s.stood) in
    let some : 0 < length bytes = omega (arith, length-take c.in-Gave.n c.turn.new.piece, c.in-Gave.ensures.fits.0, c.in-Gave.ensures.fits.1, c.turn.auto.piece) in
    let last = serving_end (g.Writer.Write.contents c.settle_to_end.new.writer) (intake c.settle_to_end.new.lane c.settle_to_end.new.conn (g.Ledger.Counter.counted c.settle_to_end.new.counts)) (g.Reader.Source.given c.turn.new.self) 0 (gave bytes) false settled.0 settled.1 c.in-Some.end
    s (some, settled.2, refl) c.loop-test.true c.in-Gave.ensures.tells settled.4 in
    (last.0, tells_round (g.Time.Clock.heard c.args.lent.now.clock.now) c.args.told.now c.loop.told c.settle_to_end.new.told c.args.conn.now.key c.loop.conn.key c.settle_to_end.new.conn.key (events_of s.rounds) settled.0 (events_of last.0.0) last.1 c.loop.invariant.2 settled.5)

pub returns-in-Failed : goal.returns-in-Failed
returns-in-Failed g c =
    let s = c.loop.invariant.1 in
    let last = serving_stop (g.Reader.Source.given c.turn.new.self) failed ReadFault s (refl, refl) c.loop-test.true c.in-Failed.ensures.tells in
    (last.0, tells_round (g.Time.Clock.heard c.args.lent.now.clock.now) c.args.told.now c.loop.told c.loop.told c.args.conn.now.key c.loop.conn.key c.loop.conn.key (events_of s.rounds) [] (events_of last.0.0) last.1 c.loop.invariant.2 (tells_none (g.Time.Clock.heard c.args.lent.now.clock.now) c.loop.told c.loop.conn.key))

pub returns-in-Some-wait : goal.returns-in-Some-wait
returns-in-Some-wait g c =
    let known = g.Writer.Write.contents in
    let lane = intake c.loop.lane c.loop.conn (g.Ledger.Counter.counted c.loop.counts) in
    let s = c.loop.invariant.1 in
    let waited = c.in-Some-wait.ensures s.last s.stood (omega (arith, s.row_is)) in
    let last = serving_end (known c.wait.new.writer) lane (g.Reader.Source.given c.turn.new.self) (c.loop.row + 1) quiet waited.0 waited.1 s.last.reading c.in-Some-wait.end
    s waited.2 c.loop-test.true c.in-Quiet.ensures.tells (does_still (Submits g.ShardPort.Port.takes g.ShardPort.Port.refuses) (known c.loop.writer) (known c.wait.new.writer) lane waited.1 waited.3 waited.4 waited.5 waited.6) in
    (last.0, tells_round (g.Time.Clock.heard c.args.lent.now.clock.now) c.args.told.now c.loop.told c.loop.told c.args.conn.now.key c.loop.conn.key c.loop.conn.key (events_of s.rounds) waited.1 (events_of last.0.0) last.1 c.loop.invariant.2 (tells_still (g.Time.Clock.heard c.args.lent.now.clock.now) c.loop.told c.loop.conn.key waited.1 waited.6))

pub returns-in-Ended : goal.returns-in-Ended
returns-in-Ended g c =
    let s = c.loop.invariant.1 in
    let last = serving_stop (g.Reader.Source.given c.turn.new.self) ended c.ended.result s (refl, ap (λ why. standing s.last.reading 0 (Some why)) (c.ended.ensures s.last.reading s.stood)) c.loop-test.true c.in-Ended.ensures.tells in
    (last.0, tells_round (g.Time.Clock.heard c.args.lent.now.clock.now) c.args.told.now c.loop.told c.loop.told c.args.conn.now.key c.loop.conn.key c.loop.conn.key (events_of s.rounds) [] (events_of last.0.0) last.1 c.loop.invariant.2 (tells_none (g.Time.Clock.heard c.args.lent.now.clock.now) c.loop.told c.loop.conn.key))

pub loop-preserved : goal.loop-preserved
loop-preserved g c =
    let known = g.Writer.Write.contents in
    let submits = Submits g.ShardPort.Port.takes g.ShardPort.Port.refuses in
    let lane = intake c.loop.lane c.loop.conn (g.Ledger.Counter.counted c.loop.counts) in
    let read = g.Reader.Source.given c.turn.new.self in
    let s = c.loop.invariant.1 in
    let low : c.loop.row ≤ c.loop.counter = c.loop.invariant.0 in
    elim c.match-turn.branch [
      | in-Gave+in_default w ↦
          let bytes = take w.in-Gave.n c.turn.new.piece in
          let reading = grown s.last.reading bytes in
          let settled = w.in_default.ensures reading (w.take.ensures s.last.reading s.stood) in
          let some : 0 < length bytes = omega (arith, length-take w.in-Gave.n c.turn.new.piece, w.in-Gave.ensures.fits.0, w.in-Gave.ensures.fits.1, c.turn.auto.piece) in
          let last = serving_more (known w.settle_to_end.new.writer) (intake w.settle_to_end.new.lane w.settle_to_end.new.conn (g.Ledger.Counter.counted w.settle_to_end.new.counts)) read w.settle_to_end.new.engine 0 (gave bytes) false settled.0 settled.1
          s (some, settled.2, refl) (settled.3 refl) (settled_rests reading settled.0 settled.1 settled.2) w.in-Gave.ensures.tells settled.4 in
          rw (w.engine-is, w.told-is, w.lane-is, w.conn-is, w.counts-is, w.writer-is, w.row-is) (
            omega arith,
            last.0,
            tells_round (g.Time.Clock.heard c.args.lent.now.clock.now) c.args.told.now c.loop.told w.settle_to_end.new.told c.args.conn.now.key c.loop.conn.key w.settle_to_end.new.conn.key (events_of s.rounds) settled.0 (events_of last.0.rounds) last.1 c.loop.invariant.2 settled.5,
          )
      | in-Quiet+in_default-wait w ↦
          let waited = w.in_default-wait.ensures s.last s.stood (omega (arith, s.row_is)) in
          let last = serving_more (known w.wait.new.writer) lane read c.loop.engine (c.loop.row + 1) quiet waited.0 waited.1 s.last.reading
          s waited.2 s.stood s.rests w.in-Quiet.ensures.tells (does_still submits (known c.loop.writer) (known w.wait.new.writer) lane waited.1 waited.3 waited.4 waited.5 waited.6) in
          rw (w.engine-is, w.told-is, w.lane-is, w.conn-is, w.counts-is, w.writer-is, w.row-is) (
            omega arith,
            last.0,
            tells_round (g.Time.Clock.heard c.args.lent.now.clock.now) c.args.told.now c.loop.told c.loop.told c.args.conn.now.key c.loop.conn.key c.loop.conn.key (events_of s.rounds) waited.1 (events_of last.0.rounds) last.1 c.loop.invariant.2 (tells_still (g.Time.Clock.heard c.args.lent.now.clock.now) c.loop.told c.loop.conn.key waited.1 waited.6),
          )
      | in-Interrupted w ↦
          let last = serving_more (known c.loop.writer) lane read c.loop.engine 0 interrupted false [] s.last.reading s (refl, refl) s.stood s.rests w.in-Interrupted.ensures.tells (does_none submits (known c.loop.writer) lane) in
          rw (w.engine-is, w.told-is, w.lane-is, w.conn-is, w.counts-is, w.writer-is, w.row-is) (
            omega arith,
            last.0,
            tells_round (g.Time.Clock.heard c.args.lent.now.clock.now) c.args.told.now c.loop.told c.loop.told c.args.conn.now.key c.loop.conn.key c.loop.conn.key (events_of s.rounds) [] (events_of last.0.rounds) last.1 c.loop.invariant.2 (tells_none (g.Time.Clock.heard c.args.lent.now.clock.now) c.loop.told c.loop.conn.key),
          )
    ]

pub returns : goal.returns
returns g c =
    let s = c.loop.invariant.1 in
    let over : c.loop.counter ≡ READ_LIMIT = omega (arith, c.loop.auto.counter-end, c.loop-test.false) in
    let served = serving_over s over in
    (served.0, subst (λ events. TellsTaken (g.Time.Clock.heard c.args.lent.now.clock.now) c.args.told.now c.loop.told c.args.conn.now.key c.loop.conn.key (submissions events)) (sym served.1) c.loop.invariant.2)
