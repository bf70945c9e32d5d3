use Rattle.std.proofs.Common.{◌≡◌, ◌++◌, drop}
use Rattle.std.specs.Prelude.{string_bytes, map}
use Rattle.std.specs.List.{concat}
use Rattle.metrics_text.specs.Shards.{all_shard_figures, shard_text, shards_text}
use Rattle.metrics_text.proofs.text.put_shards.Given as goal

-- the texts that are there, with those that are left, are the whole
abbrev pub invariant-loop-figure : goal.invariant-loop-figure
invariant-loop-figure l =
    string_bytes l.text ++ concat (map (shard_text l.shards) (drop l.figure-index all_shard_figures))
    ≡ string_bytes l.fn.text ++ shards_text l.shards
