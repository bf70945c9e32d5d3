use Rattle.std.proofs.Common.{◌≡◌, ◌+◌, ◌++◌, ◌||◌, length, map, vec_len, vec_capacity}
use Rattle.std.specs.List.{list_any}
use Rattle.pipeline.proofs.gathering.gather_shards.Given as goal

abbrev pub invariant-loop-shard : goal.invariant-loop-shard
invariant-loop-shard g l = (l.yielded ++ l.shard-iterator.rest.items ≡ l.fn.shards.items)
    × (vec_len l.ends.seats + length l.shard-iterator.rest.items ≡ vec_len l.fn.ends.seats + vec_len l.fn.shards) × (vec_capacity l.ends.seats ≡ vec_capacity l.fn.ends.seats)
    × (vec_len l.ends.receivers + length l.shard-iterator.rest.items ≡ vec_len l.fn.ends.receivers + vec_len l.fn.shards) × (vec_capacity l.ends.receivers ≡ vec_capacity l.fn.ends.receivers)
    × (vec_len l.ends.exports + length l.shard-iterator.rest.items ≡ vec_len l.fn.ends.exports + vec_len l.fn.shards) × (vec_capacity l.ends.exports ≡ vec_capacity l.fn.ends.exports)
    × (vec_len l.counted.counts + length l.shard-iterator.rest.items ≡ vec_len l.fn.counted.counts + vec_len l.fn.shards) × (vec_capacity l.counted.counts ≡ vec_capacity l.fn.counted.counts)
    × (l.ends.seats.items ≡ l.fn.ends.seats.items ++ map (λ shard. shard.seat) l.yielded)
    × (l.ends.receivers.items ≡ l.fn.ends.receivers.items ++ map (λ shard. shard.receiver) l.yielded)
    × (l.ends.exports.items ≡ l.fn.ends.exports.items ++ map (λ shard. shard.sender) l.yielded)
    × (l.counted.counts.items ≡ l.fn.counted.counts.items ++ map (λ shard. shard.counts) l.yielded)
    × (l.counted.is_full ≡ (l.fn.counted.is_full || list_any (λ shard. shard.is_full) l.yielded))
