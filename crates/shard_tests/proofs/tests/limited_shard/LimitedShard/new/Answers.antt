-- The limiter knows the nodes of the shard's policies.
-- For the ghost field of `LimitedShard`.
use Rattle.shard_tests.proofs.Nodes.{new_knows}
use Rattle.shard_tests.proofs.tests.limited_shard.LimitedShard.new.Goals as goal

pub invariant_of-result : goal.invariant_of-result
invariant_of-result c = record { nodes = new_knows c.args.policies c.in_ok-shard.shard.policies c.in_ok-limiter.limiter c.in_ok-limiter.ensures c.in_ok-shard.ensures.policies }
