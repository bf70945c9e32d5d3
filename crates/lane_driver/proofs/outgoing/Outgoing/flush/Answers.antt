use Rattle.std.proofs.Common.{◌∙◌, ap}
use Rattle.lane_driver.specs.Looks.{took_some}
use Rattle.lane_driver.proofs.Sent.{sends_on, sent_some}
use Rattle.lane_driver.proofs.outgoing.Outgoing.flush.Goals as goal

pub loop-preserved : goal.loop-preserved
loop-preserved g c =
    let known = g.W.Write.contents in
    record {
      sends = sends_on c.args.self.now c.loop.self c.send.new.self (known c.args.writer.now) (known c.loop.writer) (known c.send.new.writer) c.loop.invariant.sends c.send.ensures.sends;
      took = sent_some c.args.self.now c.loop.self c.send.new.self (known c.args.writer.now) (known c.loop.writer) c.loop.invariant.sends (c.send.ensures.took ∙ ap took_some c.in-Some.is);
    }

pub returns-in-Failed-clause-sends : goal.returns-in-Failed-clause-sends
returns-in-Failed-clause-sends g c =
    let known = g.W.Write.contents in
    sends_on c.args.self.now c.loop.self c.send.new.self (known c.args.writer.now) (known c.loop.writer) (known c.send.new.writer) c.loop.invariant.sends c.send.ensures.sends

pub returns-in-Blocked-clause-sends : goal.returns-in-Blocked-clause-sends
returns-in-Blocked-clause-sends g c =
    let known = g.W.Write.contents in
    sends_on c.args.self.now c.loop.self c.send.new.self (known c.args.writer.now) (known c.loop.writer) (known c.send.new.writer) c.loop.invariant.sends c.send.ensures.sends
