use Rattle.message_cursor.proofs.Walks.{front_message}
use Rattle.message_cursor.proofs.cursor.Cursor.message.Goals as goal

pub returns-in-Some-clause-next : goal.returns-in-Some-clause-next
returns-in-Some-clause-next c = front_message c.args.number c.args.self.now.rest.now c.in-Some.rest.now c.in-Some.value c.in-Some.ensures
