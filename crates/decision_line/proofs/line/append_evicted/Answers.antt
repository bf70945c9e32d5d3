use Rattle.std.specs.Prelude.{decimal}
use Rattle.span_ids.specs.Id.{id_text}
use Rattle.decision_line.proofs.Appended.{appends-as, appends-then, on-ok}
use Rattle.decision_line.proofs.Back.{evicted-reads-back}
use Rattle.decision_line.proofs.Told.{evicted-told}
use Rattle.decision_line.proofs.line.append_evicted.Goals as goal

pub returns-clause-text : goal.returns-clause-text
returns-clause-text c =
    let evicted = c.args.evicted.now in
    appends-as c.put.result _ _ _ _ (evicted-told (id_text evicted.trace) (decimal evicted.moment) (decimal evicted.spans))
    (appends-then c.put.result _ _ _ _ _ c.in_ok-put_trace.ensures.whole
    (appends-then c.put.result _ _ _ _ _ c.in_ok-put_number.ensures.text.whole
    (appends-then c.put.result _ _ _ _ _ c.in_ok-put_number-2.ensures.text.whole c.put.ensures)))

pub returns-clause-back : goal.returns-clause-back
returns-clause-back c = on-ok c.put.result (evicted-reads-back c.args.evicted.now c.put_number.ensures.range c.put_number-2.ensures.range)
