use Rattle.protobuf_writer.proofs.Numbers.{Writes}
use Rattle.protobuf_writer.proofs.number.put_long_number.Given as goal

abbrev pub invariant-loop-i : goal.invariant-loop-i
invariant-loop-i l = Writes l.initial.out.items l.fn.number l.i l.out.items l.left
