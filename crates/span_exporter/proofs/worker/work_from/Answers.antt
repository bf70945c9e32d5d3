use Rattle.std.proofs.Common.{◌<◌, ◌∙◌, length, refl, sym, ap, subst}
use Rattle.span_exporter.specs.Turns.{calls_in}
use Rattle.span_exporter.proofs.Popping.{none_told, same_length, works}
use Rattle.span_exporter.proofs.Turning.{turned_none, turned_idle, turned_took}
use Rattle.span_exporter.proofs.worker.work_from.Goals as goal

pub loop-init : goal.loop-init
loop-init g c = (
  subst (λ b. length b < c.args.exporter.size) (sym c.requires.new_exporter.0) c.requires.new_exporter.1,
  refl,
  turned_none g.Queue.Inbox.gives c.args.exporter c.args.tally c.args.inbox (none_told c.args.exporter.ends c.requires.none_ended),
)

pub loop-preserved-in_default : goal.loop-preserved-in_default
loop-preserved-in_default g c =
    let t = c.loop.invariant.2 in
    let f = c.flush.ensures.sent c.args.exporter c.args.tally (calls_in t.turns) t.sent in (
      c.flush.ensures.emptied.1,
      ap length c.flush.ensures.same.1 ∙ c.loop.invariant.1,
      turned_idle g.Queue.Inbox.gives c.args.exporter c.args.tally c.args.inbox c.loop.sending.exporter c.flush.new.self.exporter c.loop.sending.tally c.flush.new.self.tally c.loop.inbox c.next-in-loop.new.self
          t f.0 f.1 c.flush.ensures.same.1 c.in_default.ensures.none,
    )

pub returns-then-take : goal.returns-then-take
returns-then-take g c =
    let t = c.loop.invariant.2 in
    let first = c.in-Some-next.ensures.some in
    let a = c.take.ensures.sent c.args.exporter c.args.tally (calls_in t.turns) first.0 t.sent in
    let last = turned_took g.Queue.Inbox.gives c.args.exporter c.args.tally c.args.inbox c.loop.sending.exporter c.take.new.self.exporter c.loop.sending.tally c.take.new.self.tally c.loop.inbox c.next-in-loop.new.self
    t first.0 c.in-Some-next.shipment a.0 a.1 a.2 a.3 first.1 c.take.ensures.ends in
    let same = ap length c.take.ensures.ends ∙ same_length c.in-Some-next.shipment c.loop.sending.exporter ∙ c.loop.invariant.1 in
    let finished = c.take.ensures.finished c.if-take.true in record {
      works = (
        calls_in last.turns,
        works c.args.exporter c.take.new.self.exporter c.args.tally c.take.new.self.tally (calls_in last.turns) c.requires.new_exporter.0 same finished.0 finished.1 last.sent last.told,
        record { turns = last.turns; makes = refl; due = last.due; pops = last.pops },
      );
    }

pub loop-preserved : goal.loop-preserved
loop-preserved g c =
    let t = c.loop.invariant.2 in
    let first = c.in-Some-next.ensures.some in
    let a = c.take.ensures.sent c.args.exporter c.args.tally (calls_in t.turns) first.0 t.sent in (
      c.take.ensures.room,
      ap length c.take.ensures.ends ∙ same_length c.in-Some-next.shipment c.loop.sending.exporter ∙ c.loop.invariant.1,
      turned_took g.Queue.Inbox.gives c.args.exporter c.args.tally c.args.inbox c.loop.sending.exporter c.take.new.self.exporter c.loop.sending.tally c.take.new.self.tally c.loop.inbox c.next-in-loop.new.self
          t first.0 c.in-Some-next.shipment a.0 a.1 a.2 a.3 first.1 c.take.ensures.ends,
    )
