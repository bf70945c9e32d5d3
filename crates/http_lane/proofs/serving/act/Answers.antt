use Rattle.std.proofs.Common.{ap, refl, subst, sym, []}
use Rattle.http_lane.specs.Connection.{accepts, refusal, close_asked, text_of}
use Rattle.http_lane.specs.Engine.{Puts}
use Rattle.http_lane.proofs.TellingLemmas.{tells_none}
use Rattle.http_lane.proofs.EventLemmas.{can_text, never_open, Appends-none, serves_answers}
use Rattle.http_lane.proofs.serving.act.Goals as goal

pub returns-in-Nothing-clause-acts : goal.returns-in-Nothing-clause-acts
returns-in-Nothing-clause-acts g c = λ r stands.
    let found = c.in-Nothing.ensures.brings r stands in (found.0, found.1, refl, refl, tells_none (g.Time.Clock.heard c.args.lent.now.clock.now) c.args.told.now c.args.conn.now.key)

pub returns-in-Refused-clause-acts : goal.returns-in-Refused-clause-acts
returns-in-Refused-clause-acts g c = λ r stands.
    let found = c.in-Refused.ensures.brings r stands in
    let cause = refusal c.in-Refused.refusal c.in-Refused.is_head in (
      cause,
      found.0,
      found.1,
      (λ e. absurd (never_open c.answer.result e)),
      c.encoding-encoding.result,
      c.encoding-encoding.ensures.stands r stands,
      record {
        can = can_text c.answer.result cause c.answer.ensures.fate refl;
        closes = refl;
        puts = c.answer.ensures.puts;
        lane = refl;
        told = tells_none (g.Time.Clock.heard c.args.lent.now.clock.now) c.args.told.now c.args.conn.now.key;
      },
      refl,
    )

pub returns-in-Close-clause-acts : goal.returns-in-Close-clause-acts
returns-in-Close-clause-acts g c = λ r stands.
    let found = c.in-Close.ensures.brings r stands in (
      close_asked,
      found.0,
      found.1,
      (λ e. absurd (never_open c.answer-in-Close.result e)),
      c.encoding-encoding.result,
      c.encoding-encoding.ensures.stands r stands,
      record {
        can = can_text c.answer-in-Close.result close_asked c.answer-in-Close.ensures.fate refl;
        closes = refl;
        puts = c.answer-in-Close.ensures.puts;
        lane = refl;
        told = tells_none (g.Time.Clock.heard c.args.lent.now.clock.now) c.args.told.now c.args.conn.now.key;
      },
      refl,
    )

pub returns-in-Accepted-true-clause-acts : goal.returns-in-Accepted-true-clause-acts
returns-in-Accepted-true-clause-acts g c = λ r stands.
    let found = c.in-Accepted-true.ensures.brings r stands in
    let cause = accepts c.in-Accepted-true.awaited in
    let known = g.Writer.Write.contents in (
      cause,
      found.0,
      found.1,
      (λ e. found.2),
      c.encoding-encoding.result,
      c.encoding-encoding.ensures.stands r stands,
      record {
        can = can_text c.answer-in-Accepted-true.result cause c.answer-in-Accepted-true.ensures.fate c.in-Accepted-true.awaited-test;
        closes = refl;
        puts = subst (λ a. Puts (known c.args.writer.now) (known c.answer-in-Accepted-true.new.writer) c.answer-in-Accepted-true.result (text_of c.encoding-encoding.result (accepts a)))
            (sym c.in-Accepted-true.awaited-test) c.answer-in-Accepted-true.ensures.puts;
        lane = refl;
        told = tells_none (g.Time.Clock.heard c.args.lent.now.clock.now) c.args.told.now c.args.conn.now.key;
      },
      refl,
    )

pub returns-in-Accepted-false-clause-acts : goal.returns-in-Accepted-false-clause-acts
returns-in-Accepted-false-clause-acts g c = λ r stands.
    let found = c.in-Accepted-false.ensures.brings r stands in
    let cause = accepts c.in-Accepted-false.awaited in (
      cause,
      found.0,
      found.1,
      (λ e. found.2),
      c.encoding-encoding.result,
      c.encoding-encoding.ensures.stands r stands,
      record {
        can = refl;
        closes = refl;
        puts = ([], Appends-none (g.Writer.Write.contents c.args.writer.now), ap (λ a. text_of c.encoding-encoding.result (accepts a)) (sym c.in-Accepted-false.awaited-test));
        lane = refl;
        told = tells_none (g.Time.Clock.heard c.args.lent.now.clock.now) c.args.told.now c.args.conn.now.key;
      },
      refl,
    )

pub returns-in-Whole-clause-acts : goal.returns-in-Whole-clause-acts
returns-in-Whole-clause-acts g c = λ r stands.
    let found = c.in-Whole.ensures.brings r stands in
    let served = c.respond-closes.ensures (g.Parser.Engine.body_of c.advance.new.self) c.body-body.ensures in
    (served.0, found.0, found.2 served.0 served.1, (λ e. found.1), c.encoding-encoding.result, c.encoding-encoding.ensures.stands r stands, served.2, serves_answers c.in-Whole.limit c.in-Whole.is_packed (g.Parser.Engine.body_of c.advance.new.self) c.in-Whole.says_close served.0 served.1)
