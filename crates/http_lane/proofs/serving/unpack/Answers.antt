use Rattle.http_lane.specs.Intake.{Submits, intake}
use Rattle.http_lane.specs.Telling.{TellsTaken}
use Rattle.http_lane.proofs.TellingLemmas.{tells_none}
use Rattle.http_lane.proofs.UnpackLemmas.{unfit_did}
use Rattle.http_lane.proofs.serving.unpack.Goals as goal

pub returns-in-Err : goal.returns-in-Err
returns-in-Err g c =
    let heard = g.Time.Clock.heard c.args.lent.now.clock.now in
    unfit_did (Submits g.ShardPort.Port.takes g.ShardPort.Port.refuses) (TellsTaken heard c.args.told.now c.args.told.now c.args.conn.now.key c.args.conn.now.key) (tells_none heard c.args.told.now c.args.conn.now.key) (g.Writer.Write.contents c.args.writer.now) (g.Writer.Write.contents c.answer.new.writer)
    (intake c.args.lane.now c.args.conn.now (g.Ledger.Counter.counted c.args.counts.now)) c.args.encoding c.args.limit c.args.body.now c.args.says_close
    c.in-Err.fault c.unfit.result c.answer.result c.unfit.ensures c.in-Err.ensures.refuses c.answer.ensures.fate c.answer.ensures.puts
