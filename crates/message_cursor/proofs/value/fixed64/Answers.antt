use Rattle.std.proofs.Common.{arith}
use Rattle.protobuf_wire.proofs.LittleEndian.{fixed_eight}
use Rattle.message_cursor.proofs.value.fixed64.Goals as goal

pub returns : goal.returns
returns c = fixed_eight c.args.bytes.now c.from_le_bytes-value.result (omega arith) c.from_le_bytes-value.ensures
