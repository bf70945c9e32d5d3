-- A workroom may go to another thread, by what it holds.
-- For each call above that starts threads.
use denote.Param.Send.{IsSend, sendable}
use Rattle.std.proofs.Crossing.{crosses}
use Rattle.expression.proofs.Sent.{searches_send}
use Rattle.ottl_condition.specs.contracts.workroom.Workroom as workroom

pub workroom_send : IsSend workroom.the_field.row
workroom_send = search (sendable, crosses, searches_send) depth 100 fits 100000
