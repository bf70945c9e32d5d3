use Rattle.std.proofs.Common.{◌≡◌, ◌++◌, drop}
use Rattle.std.specs.Prelude.{string_bytes}
use Rattle.metrics_text.specs.Shards.{shard_lines}
use Rattle.metrics_text.proofs.text.put_shard_lines.Given as goal

-- the lines that are there, with those that are left, are all
abbrev pub invariant-loop-number : goal.invariant-loop-number
invariant-loop-number l =
    string_bytes l.text ++ shard_lines l.figure l.number (drop l.number l.shards)
    ≡ string_bytes l.fn.text ++ shard_lines l.figure 0 l.shards
