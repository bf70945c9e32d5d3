use Rattle.protobuf_wire.specs.Wire.{fixed64}
use Rattle.message_cursor.specs.Walk.{fixed64_in}
use Rattle.message_cursor.proofs.Walks.{took}
use Rattle.message_cursor.proofs.cursor.Cursor.fixed64.Goals as goal

pub returns-in-Some : goal.returns-in-Some
returns-in-Some c = took fixed64_in c.args.number (fixed64 c.in-Some.value) c.args.self.now.rest.now c.in-Some.rest.now c.in-Some.ensures
