use Rattle.protobuf_wire.specs.Wire.{varint}
use Rattle.message_cursor.specs.Walk.{number_in}
use Rattle.message_cursor.proofs.Walks.{took}
use Rattle.message_cursor.proofs.cursor.Cursor.number.Goals as goal

pub returns-in-Some : goal.returns-in-Some
returns-in-Some c = took number_in c.args.number (varint c.in-Some.value) c.args.self.now.rest.now c.in-Some.rest.now c.in-Some.ensures
