-- Conditions may go to another thread, by what they hold.
-- For each call above that starts threads.
use denote.Param.Send.{IsSend, sendable}
use Rattle.otlp_types.proofs.list.Text.TheSendSync as text
use Rattle.ottl_text.proofs.expression.Expression.TheLaws.TheKnot as knot
use Rattle.ottl_condition.proofs.Sent.{workroom_send}
use Rattle.ottl_lists.specs.contracts.condition.Condition as condition
use Rattle.ottl_lists.specs.contracts.conditions.Conditions as conditions
use Rattle.std.proofs.Crossing.{crosses}

condition_send : IsSend condition.the_row
condition_send = search (sendable, crosses, workroom_send, text.the_send, knot.send-Expression) depth 100 fits 100000

pub conditions_send : IsSend conditions.the_row
conditions_send = search (sendable, crosses, condition_send) depth 100 fits 100000
