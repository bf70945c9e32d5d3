use Rattle.std.proofs.Common.{lit<}
use Rattle.protobuf_wire.specs.Wire.{fixed64}
use Rattle.message_cursor.proofs.Fronts.{front_of, fixed64_value}
use Rattle.message_cursor.proofs.front.fixed64_front.Goals as goal

pub returns-in-Ok : goal.returns-in-Ok
returns-in-Ok c =
    let e = c.in-Some.ensures in
    front_of c.args.sent.now c.in-Some.rest.now c.in-Ok.read.1.now c.args.wanted 1 (fixed64 c.in-Ok.read.0) (lit< tt) e.tag e.low e.high e.some (fixed64_value c.in-Some.rest.now c.in-Ok.read.0 c.in-Ok.read.1.now c.in-Ok.ensures)
