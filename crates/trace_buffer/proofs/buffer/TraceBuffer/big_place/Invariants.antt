use Rattle.trace_buffer.proofs.Walking.{NoneDue}
use Rattle.trace_buffer.proofs.buffer.TraceBuffer.big_place.Given as goal

abbrev pub invariant-loop-place : goal.invariant-loop-place
invariant-loop-place l = NoneDue l.mark l.wait l.root_wait l.self-inside.ring.items l.place
