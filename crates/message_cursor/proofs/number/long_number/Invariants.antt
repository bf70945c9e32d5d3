use Rattle.protobuf_wire.proofs.Numbers.{Reads}
use Rattle.message_cursor.proofs.number.long_number.Given as goal

abbrev pub invariant-loop-i : goal.invariant-loop-i
invariant-loop-i l = Reads l.bytes l.i l.value
