use Rattle.std.proofs.Common.{sym, ap, ◌∙◌, option_copied, arith}
use Rattle.trace_buffer.proofs.Waiting.{counted-next, counted-all}
use Rattle.trace_buffer.proofs.buffer.waiting_in.Goals as goal

pub loop-place-preserved : goal.loop-place-preserved
loop-place-preserved c =
    rw (c.saturating_add-spans.ensures, c.waiting_of-waits.ensures.traces, c.waiting_of-waits.ensures.spans)
    (counted-next c.args.ring.now.items c.loop-place.place c.loop-place.traces c.loop-place.spans c.unwrap-episode.result.now (sym c.get.ensures ∙ ap option_copied c.unwrap-episode.ensures) c.loop-place.invariant)

pub returns-clause-traces : goal.returns-clause-traces
returns-clause-traces c = (counted-all c.args.ring.now.items c.loop-place.place c.loop-place.traces c.loop-place.spans (omega (arith, c.loop-place-test.false, c.len-place-end.ensures.len)) c.loop-place.invariant).0

pub returns-clause-spans : goal.returns-clause-spans
returns-clause-spans c = (counted-all c.args.ring.now.items c.loop-place.place c.loop-place.traces c.loop-place.spans (omega (arith, c.loop-place-test.false, c.len-place-end.ensures.len)) c.loop-place.invariant).1
