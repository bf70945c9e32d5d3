use Rattle.std.proofs.Common.{◌/◌, refl, arith}
use Rattle.protobuf_wire.specs.Seen.{seen}
use Rattle.message_cursor.proofs.Fronts.{at_end, is_above, no_number, no_zero, no_great, no_value, first_is}
use Rattle.message_cursor.proofs.front.first_below.Goals as goal

pub returns-then-sent-eq0-clause-none : goal.returns-then-sent-eq0-clause-none
returns-then-sent-eq0-clause-none c = at_end c.args.wanted c.args.sent.now (omega arith)

pub returns-in-Err-clause-none : goal.returns-in-Err-clause-none
returns-in-Err-clause-none c = no_number c.args.wanted c.args.sent.now c.in-Err._fault (omega arith) c.in-Err.ensures.value

pub returns-then-found-wanted-clause-none : goal.returns-then-found-wanted-clause-none
returns-then-found-wanted-clause-none c = is_above c.args.wanted c.args.sent.now c.in-Ok.read.0 c.in-Ok.read.1.now (omega arith) c.in-Ok.ensures.value (omega arith)

pub returns-then-found-eq0-clause-none : goal.returns-then-found-eq0-clause-none
returns-then-found-eq0-clause-none c = no_zero c.args.wanted c.args.sent.now c.in-Ok.read.0 c.in-Ok.read.1.now (omega arith) c.in-Ok.ensures.value (omega arith)

pub returns-then-found-ge536870912-clause-none : goal.returns-then-found-ge536870912-clause-none
returns-then-found-ge536870912-clause-none c = no_great c.args.wanted c.args.sent.now c.in-Ok.read.0 c.in-Ok.read.1.now (omega arith) c.in-Ok.ensures.value (omega arith)

pub returns-in-Ok-value_of-clause-first : goal.returns-in-Ok-value_of-clause-first
returns-in-Ok-value_of-clause-first c =
    first_is c.args.sent.now c.in-Ok.read.0 (c.in-Ok.read.0 / 8) c.in-Ok.read.1.now (seen c.in-Ok-value_of.value) c.in-Ok-value_of.behind.now c.in-Ok.ensures.value refl (omega arith) (omega arith) c.in-Ok-value_of.ensures (omega arith)

pub returns-in-Err-value_of-clause-none : goal.returns-in-Err-value_of-clause-none
returns-in-Err-value_of-clause-none c =
    no_value c.args.wanted c.args.sent.now c.in-Ok.read.0 c.in-Ok.read.1.now c.in-Err-value_of._fault (omega arith) c.in-Ok.ensures.value (omega arith) (omega arith) c.in-Err-value_of.ensures
