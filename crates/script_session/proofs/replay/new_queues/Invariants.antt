use Rattle.std.proofs.Common.{◌≡◌}
use Rattle.script_run.specs.World.{empty_queues}
use Rattle.script_session.proofs.replay.new_queues.Given as goal

abbrev pub invariant-loop-shard : goal.invariant-loop-shard
invariant-loop-shard l = l.queues.items ≡ empty_queues l.capacity l._shard
