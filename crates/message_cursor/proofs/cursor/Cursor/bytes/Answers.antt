use Rattle.protobuf_wire.specs.Wire.{bytes}
use Rattle.message_cursor.specs.Walk.{bytes_in}
use Rattle.message_cursor.proofs.Walks.{took}
use Rattle.message_cursor.proofs.cursor.Cursor.bytes.Goals as goal

pub returns-in-Some-clause-asked : goal.returns-in-Some-clause-asked
returns-in-Some-clause-asked c = took bytes_in c.args.number (bytes c.in-Some.value.now) c.args.self.now.rest.now c.in-Some.rest.now c.in-Some.ensures
