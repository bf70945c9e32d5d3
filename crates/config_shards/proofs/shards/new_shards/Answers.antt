use Rattle.std.proofs.Common.{All, arith, sym, subst}
use Rattle.std.proofs.lemmas.List.Elements.{All-push}
use Rattle.config_shards.specs.Shards.{IsNewShard}
use Rattle.config_shards.proofs.shards.new_shards.Goals as goal

pub loop-shard-preserved : goal.loop-shard-preserved
loop-shard-preserved c =
    let h = c.loop-shard.invariant in
    let pushed = c.push_reserved.ensures in (
      omega (arith, pushed.len, h.0),
      omega (arith, pushed.capacity, h.1),
      subst (All (IsNewShard c.args.config.now)) (sym pushed.items) (All-push (IsNewShard c.args.config.now) c.loop-shard.made.items c.in_ok-new_shard.field-0 h.2 c.in_ok-new_shard.ensures),
    )
