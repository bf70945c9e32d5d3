use Rattle.std.proofs.Common.{lit<}
use Rattle.protobuf_wire.specs.Wire.{varint}
use Rattle.message_cursor.proofs.Fronts.{front_of, number_value}
use Rattle.message_cursor.proofs.front.number_front.Goals as goal

pub returns-in-Ok : goal.returns-in-Ok
returns-in-Ok c =
    let e = c.in-Some.ensures in
    front_of c.args.sent.now c.in-Some.rest.now c.in-Ok.read.1.now c.args.wanted 0 (varint c.in-Ok.read.0) (lit< tt) e.tag e.low e.high e.some (number_value c.in-Some.rest.now c.in-Ok.read.0 c.in-Ok.read.1.now c.in-Ok.ensures.value)
