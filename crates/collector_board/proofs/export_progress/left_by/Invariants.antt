use Rattle.std.proofs.Common.{◌≡◌, drop}
use Rattle.collector_board.specs.Backlog.{left_by}
use Rattle.collector_board.proofs.export_progress.left_by.Given as goal

-- what is left, less what the other shards hold, is the whole's
abbrev pub invariant-loop-shard : goal.invariant-loop-shard
invariant-loop-shard l = left_by l.left (drop l.shard-index l.shards) ≡ left_by l.waiting l.shards
