use Rattle.http_lane.specs.Intake.{intake}
use Rattle.lane_seq.specs.Counting.{Counts}
use Rattle.std.proofs.Common.{true, false, refl, subst, sym, ap, []}
use Rattle.http_lane.specs.Connection.{submitted, submission, is_counted}
use Rattle.lane_seq.specs.declared.preparing.Conn.{Conn}
use Rattle.http_lane.proofs.EventLemmas.{can_text, counted_text, Appends-none}
use Rattle.http_lane.proofs.KeptLemmas.{unkept_or_kept}
use Rattle.http_lane.proofs.TellingLemmas.{key_by_reply, tells_counted, tells_uncounted}
use Rattle.http_lane.proofs.serving.submit.Goals as goal

pub returns-then-not-count_reply : goal.returns-then-not-count_reply
returns-then-not-count_reply g c = record {
  kept = λ e. absurd (cc e);
  responds = λ limit is_packed body is.
      let reply = c.submit-reply.result in
      let cause = submitted c.args.text.now c.now-moment.result reply c.args.says_close in
      let took = c.submit-reply.ensures in
      let counts = c.if-not-count_reply.ensures.counts in
      let new = intake c.submit-reply.new.self c.submit-reply.new.conn (g.Ledger.Counter.counted c.count_reply.new.counts) in (
        cause,
        (body, refl, is, refl),
        record {
          can = c.if-not-count_reply.ensures.spans refl;
          closes = refl;
          puts = ([], Appends-none (g.Writer.Write.contents c.args.writer.now), refl);
          lane = (
            new,
            record { received = took.received; lane = took.lane; ports = took.ports; bad = took.bad; refused = took.refused; counts = counts },
            refl,
          );
          told = tells_uncounted (g.Time.Clock.heard c.args.lent.now.clock.now) c.args.told.now c.args.conn.now.key c.submit-reply.new.conn.key (submission c.args.encoding c.args.text.now c.now-moment.result reply false) refl
              (key_by_reply reply c.args.conn.now c.submit-reply.new.conn took.received (λ r. (took.refused r).1) (λ f. ap (λ (it : Conn). it.key) f.3));
        },
      );
}

pub returns-then-not-is_kept : goal.returns-then-not-is_kept
returns-then-not-is_kept g c = record {
  kept = λ e. absurd (cc e);
  responds = λ limit is_packed body is.
      let reply = c.submit-reply.result in
      let cause = submitted c.args.text.now c.now-moment.result reply c.args.says_close in
      let took = c.submit-reply.ensures in
      let counts = c.if-not-count_reply.ensures.counts in
      let new = intake c.submit-reply.new.self c.submit-reply.new.conn (g.Ledger.Counter.counted c.count_reply.new.counts) in (
        cause,
        (body, refl, is, refl),
        record {
          can = refl;
          closes = refl;
          puts = ([], Appends-none (g.Writer.Write.contents c.args.writer.now), (0, refl));
          lane = (
            new,
            record { received = took.received; lane = took.lane; ports = took.ports; bad = took.bad; refused = took.refused; counts = counts },
            refl,
          );
          told = tells_counted (g.Time.Clock.heard c.args.lent.now.clock.now) c.args.told.now c.is_kept.new.told c.args.conn.now.key c.submit-reply.new.conn.key (submission c.args.encoding c.args.text.now c.now-moment.result reply true) refl
              (key_by_reply reply c.args.conn.now c.submit-reply.new.conn took.received (λ r. (took.refused r).1) (λ f. ap (λ (it : Conn). it.key) f.3)) c.if-not-is_kept.ensures.told;
        },
      );
}

pub returns : goal.returns
returns g c = record {
  kept = λ e. unkept_or_kept c.submit-reply.result (λ r. (c.submit-reply.ensures.refused r).1) (λ r. (c.now-moment.result, c.if-not-is_kept.ensures.kept refl r));
  responds = λ limit is_packed body is.
      let reply = c.submit-reply.result in
      let cause = submitted c.args.text.now c.now-moment.result reply c.args.says_close in
      let took = c.submit-reply.ensures in
      let counts = c.if-not-count_reply.ensures.counts in
      let counted = counted_text c.answer.result c.answer.ensures.fate in (
        cause,
        (body, refl, is, refl),
        record {
          can = can_text c.answer.result cause c.answer.ensures.fate refl;
          closes = refl;
          puts = c.answer.ensures.puts;
          lane = (
            intake c.submit-reply.new.self c.submit-reply.new.conn (g.Ledger.Counter.counted c.count_reply.new.counts),
            record { received = took.received; lane = took.lane; ports = took.ports; bad = took.bad; refused = took.refused; counts = subst (λ t. Counts reply t (g.Ledger.Counter.counted c.args.counts.now) (g.Ledger.Counter.counted c.count_reply.new.counts)) (sym counted) counts },
            refl,
          );
          told = tells_counted (g.Time.Clock.heard c.args.lent.now.clock.now) c.args.told.now c.is_kept.new.told c.args.conn.now.key c.submit-reply.new.conn.key (submission c.args.encoding c.args.text.now c.now-moment.result reply (is_counted c.answer.result)) counted
              (key_by_reply reply c.args.conn.now c.submit-reply.new.conn took.received (λ r. (took.refused r).1) (λ f. ap (λ (it : Conn). it.key) f.3)) c.if-not-is_kept.ensures.told;
        },
      );
}
