use Rattle.std.proofs.Common.{length, subst, sym}
use Rattle.span_exporter.specs.Exports.{records_to_send, SendsLineTo}
use Rattle.span_exporter.proofs.Keeping.{one_answered_to}
use Rattle.span_exporter.specs.declared.answer.Flushed.TheVariants.{Handed, BatchDropped, Empty}
use Rattle.span_exporter.proofs.OneMore.{sent_flush, counts_handed, counts_batch_dropped, counts_nothing}
use Rattle.span_exporter.proofs.sending.Sending.flush.Goals as goal

pub returns-in-Handed-clause-sent : goal.returns-in-Handed-clause-sent
returns-in-Handed-clause-sent g c = λ start before calls sent.
    let told = c.in-Handed.ensures in
    let old = c.args.self.now.exporter in
    let new = c.flush.new.self in
    let answer = Handed c.in-Handed.spans in (
      answer,
      sent_flush start before c.args.self.now.exporter c.flush.new.self c.args.self.now.tally c.count.new.self calls answer sent (subst (λ manner. SendsLineTo (records_to_send old) manner old.sink old.batch answer new.sink) (sym told.manner) told.sent, told.emptied)
          (counts_handed c.in-Handed.spans _ c.args.self.now.tally c.count.new.self (one_answered_to (records_to_send old) g.D.Destination.manner old.sink new.sink old.batch answer told.sent).1 c.count.ensures.counted c.count.ensures.cause),
    )

pub returns-in-BatchDropped-clause-sent : goal.returns-in-BatchDropped-clause-sent
returns-in-BatchDropped-clause-sent g c = λ start before calls sent.
    let told = c.in-BatchDropped.ensures in
    let old = c.args.self.now.exporter in
    let new = c.flush.new.self in
    let answer = BatchDropped c.in-BatchDropped.spans c.in-BatchDropped.reason in (
      answer,
      sent_flush start before c.args.self.now.exporter c.flush.new.self c.args.self.now.tally c.count-in-BatchDropped.new.self calls answer sent (subst (λ manner. SendsLineTo (records_to_send old) manner old.sink old.batch answer new.sink) (sym told.manner) told.sent, told.emptied)
          (counts_batch_dropped c.in-BatchDropped.spans _ c.in-BatchDropped.reason c.args.self.now.tally c.count-in-BatchDropped.new.self (one_answered_to (records_to_send old) g.D.Destination.manner old.sink new.sink old.batch answer told.sent).1 c.count-in-BatchDropped.ensures.counted c.count-in-BatchDropped.ensures.cause),
    )

pub returns-in-Empty-clause-sent : goal.returns-in-Empty-clause-sent
returns-in-Empty-clause-sent g c = λ start before calls sent.
    let told = c.in-Empty.ensures in
    let old = c.args.self.now.exporter in
    let new = c.flush.new.self in
    (Empty, sent_flush start before c.args.self.now.exporter c.flush.new.self c.args.self.now.tally c.args.self.now.tally calls Empty sent (subst (λ manner. SendsLineTo (records_to_send old) manner old.sink old.batch Empty new.sink) (sym told.manner) told.sent, told.emptied) (counts_nothing (length c.args.self.now.exporter.batch) c.args.self.now.tally))
