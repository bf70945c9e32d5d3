use Rattle.std.proofs.Common.{◌<◌, length, arith, sym, ap, ◌∙◌}
use Rattle.otlp_flatten.proofs.Steps.{one_more_taken}
use Rattle.otlp_flatten.proofs.grouping.scope_group.Goals as goal

pub loop-item-preserved : goal.loop-item-preserved
loop-item-preserved g c =
    let within : c.loop-item.item-index < length c.loop-item.items = omega arith in
    let span_of = λ (x : g.row.T.Denot). (g.T.HasRecord.record_in x).span in
    one_more_taken span_of c.loop-item.items c.args.items.now c.loop-item.item-index c.item-item.result c.take_span.new.self c.take_span.result
    c.loop-item.spans c.push.new.self within c.item-item.is (c.take_span.ensures ∙ ap span_of (sym c.item-item.is)) c.in_ok-push.ensures.ok c.loop-item.invariant
