-- A shard may go to another thread, by what it holds.
-- For each call above that starts threads.
use denote.Param.Send.{IsSend, sendable}
use Rattle.decision_cache.proofs.cache.DecisionCache.TheSendSync as cache
use Rattle.policy_eval.proofs.Sent.{searches_send}
use Rattle.policy_tree.proofs.Sent.{policies_send}
use Rattle.shard_core.specs.contracts.shard.Shard as shard
use Rattle.std.proofs.Crossing.{crosses}
use Rattle.trace_buffer.proofs.Sent.{buffer_send}

pub shard_send : IsSend shard.the_row
shard_send = search (sendable, policies_send, buffer_send, cache.the_send, searches_send, crosses) depth 20
