use Rattle.std.proofs.Common.{◌≡◌, ◌+◌, length, ap, arith}
use Rattle.std.proofs.lemmas.List.{length-replicate}
use Rattle.shard_journal.specs.Settings.{settings_of}
use Rattle.world_theory.specs.World.{new_lane}
use Rattle.span_world.proofs.Looking.{new_looks}
use Rattle.span_world.proofs.world.World.new.Goals as goal

pub invariant_of-result : goal.invariant_of-result
invariant_of-result c =
    let lanes : c.args.lanes + 1 ≡ length c.in_ok-new_lanes.field-0.items + 1 = omega (arith, ap length c.in_ok-new_lanes.ensures, length-replicate c.args.lanes new_lane) in (
      lanes,
      rw (c.in_ok-shards.ensures.shards, c.in_ok-shards.ensures.looks) (new_looks (settings_of (record c.args.config.shard { senders = c.args.lanes + 1 })) c.args.shards),
      rw c.searches.view_is c.in_ok-searches.ensures,
    )
