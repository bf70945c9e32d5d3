use Rattle.std.proofs.Common.{arith}
use Rattle.protobuf_wire.proofs.LittleEndian.{fixed_four}
use Rattle.message_cursor.proofs.value.fixed32.Goals as goal

pub returns : goal.returns
returns c = fixed_four c.args.bytes.now c.from_le_bytes-value.result (omega arith) c.from_le_bytes-value.ensures
