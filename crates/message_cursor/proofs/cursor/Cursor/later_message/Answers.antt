use Rattle.std.proofs.Common.{◌≡◌, [], Some, None, refl}
use Rattle.message_cursor.proofs.Walks.{later_some, later_none}
use Rattle.message_cursor.proofs.cursor.Cursor.later_message.Goals as goal

pub returns-in-Some-clause-next : goal.returns-in-Some-clause-next
returns-in-Some-clause-next c =
    let e : c.seek.result.0 ≡ Some c.in-Some._value = cc c.in-Some.is in
    later_some c.args.number c.args.self.now.rest.now c.seek.result.1.now c.seek.result.0 c.in-Some._value c.bytes_of.result e c.bytes_of.ensures.found c.seek.ensures.asked

pub returns-in-None-clause-next : goal.returns-in-None-clause-next
returns-in-None-clause-next c =
    let e : c.seek.result.0 ≡ None = cc c.in-None.is in
    later_none c.args.number c.args.self.now.rest.now c.seek.result.1.now [] c.seek.result.0 e refl c.seek.ensures.asked
