use Rattle.std.proofs.Common.{length, ap, arith}
use Rattle.std.proofs.lemmas.List.{take_all}
use Rattle.otlp_types.specs.declared.span.Span.{Span}
use Rattle.span_size.specs.Size.{size_of, span_text}
use Rattle.span_size.proofs.Totals.{total-more}
use Rattle.span_size.proofs.size_of.Goals as goal

pub loop-arrival-preserved : goal.loop-arrival-preserved
loop-arrival-preserved c =
    let more = total-more c.args.spans.now c.loop-arrival.arrival-index c.arrival-item.result c.loop-arrival-test.true c.arrival-item.is in
    let text = ap (λ (s : Span). length (span_text s)) c.get.ensures in
    omega (arith, more, text)

pub returns : goal.returns
unfolding size_of
returns c = rw (take_all c.loop-arrival.arrival-index c.args.spans.now c.loop-arrival-test.false) at c.loop-arrival.invariant
