-- What searches for the expressions of policies may go to another thread, by what it holds.
-- For each call above that starts threads.
use denote.Param.Send.{IsSend, sendable}
use Rattle.expression.proofs.Sent.{searches_send as regular_send}
use Rattle.ottl_lists.proofs.Sent.{conditions_send}
use Rattle.policy_eval.specs.contracts.searches.Searches as searches
use Rattle.std.proofs.Crossing.{crosses}

pub searches_send : IsSend searches.the_row
searches_send = search (sendable, crosses, regular_send, conditions_send) depth 100 fits 100000
