use Rattle.std.proofs.Common.{arith}
use Rattle.protobuf_wire.specs.Seen.{seen_field}
use Rattle.message_cursor.proofs.Walks.{found_here, one_less}
use Rattle.message_cursor.proofs.front.seek.Goals as goal

pub returns-then-field-wanted-clause-asked : goal.returns-then-field-wanted-clause-asked
returns-then-field-wanted-clause-asked c =
    found_here c.args.wanted c.args.sent.now c.fields.rest.now c.in-Some.behind.now (seen_field c.in-Some.field) c.fields.invariant c.in-Some.ensures.first (omega arith)

pub fields-preserved : goal.fields-preserved
fields-preserved c =
    let low = c.in-Some.ensures.low in
    one_less c.args.wanted c.args.sent.now c.fields.rest.now c.in-Some.behind.now (seen_field c.in-Some.field) c.fields.invariant c.in-Some.ensures.first (omega (arith, low))
