use Rattle.std.proofs.Common.{◌≡◌, ◌≤◌, All, vec_len, vec_capacity}
use Rattle.config_shards.specs.Shards.{IsNewShard}
use Rattle.config_shards.proofs.shards.new_shards.Given as goal

abbrev pub invariant-loop-shard : goal.invariant-loop-shard
invariant-loop-shard l = (vec_len l.made ≡ l._shard) × (l.config.shards ≤ vec_capacity l.made) × All (IsNewShard l.config) l.made.items
