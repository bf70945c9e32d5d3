use Rattle.std.proofs.Common.{◌≡◌, ◌++◌, ◌≤◌, length, vec_capacity}
use Rattle.pipeline.proofs.lanes.lane_of.Given as goal

abbrev pub invariant-loop-sender : goal.invariant-loop-sender
invariant-loop-sender g l = (l.yielded ++ l.sender-iterator.rest.items ≡ l.fn.senders.items) × (l.ports.items ≡ l.yielded) × (length l.fn.senders.items ≤ vec_capacity l.ports)
