use Rattle.std.specs.Prelude.{string_bytes}
use Rattle.metrics_text.specs.declared.figure.ShardFigure.TheVariants.{Queued}
use Rattle.metrics_text.specs.Shards.{all_shard_figures, shard_text}
use Rattle.metrics_text.proofs.Appending.{items-next}
use Rattle.metrics_text.proofs.text.put_shards.Goals as goal

pub loop-figure-preserved : goal.loop-figure-preserved
loop-figure-preserved c =
    items-next (shard_text c.args.shards.now) all_shard_figures Queued (string_bytes c.loop-figure.text) (string_bytes c.put_shard_figure.new.text) _ c.loop-figure.figure-index c.loop-figure-test.true c.loop-figure.invariant c.in_ok-put_shard_figure.ensures
