-- Policies may go to another thread, by what they hold.
-- For each call above that starts threads.
use denote.Param.Send.{IsSend, sendable}
use Rattle.otlp_types.proofs.list.List.TheSendSync as list
use Rattle.otlp_types.proofs.list.Text.TheSendSync as text
use Rattle.policy_tree.proofs.policy.PolicyKind.TheLaws.TheKnot as knot
use Rattle.policy_tree.proofs.policy.Leaf.TheSendSync as leaf
use Rattle.policy_tree.proofs.policy.Wanted.TheSendSync as wanted
use Rattle.policy_tree.specs.contracts.policy.Policy as policy
use Rattle.policy_tree.specs.contracts.policies.Policies as policies
use Rattle.std.proofs.Crossing.{crosses}

pub policy_send : IsSend policy.the_row
policy_send = search (sendable, list.the_send, text.the_send, wanted.the_field_send, leaf.the_field_send, knot.send-Policy) depth 20

pub policies_send : IsSend policies.the_row
policies_send = search (sendable, crosses, policy_send) depth 20
