use Rattle.trace_buffer.proofs.Waiting.{Counted}
use Rattle.trace_buffer.proofs.buffer.waiting_in.Given as goal

abbrev pub invariant-loop-place : goal.invariant-loop-place
invariant-loop-place l = Counted l.ring.items l.place l.traces l.spans
