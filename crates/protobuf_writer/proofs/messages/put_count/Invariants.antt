use Rattle.protobuf_writer.proofs.Counting.{Counts}
use Rattle.protobuf_writer.proofs.messages.put_count.Given as goal

abbrev pub invariant-loop-i : goal.invariant-loop-i
invariant-loop-i l = Counts l.initial.out.items l.at l.fn.count l.i l.out.items l.left
