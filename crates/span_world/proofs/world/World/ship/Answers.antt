use Rattle.std.proofs.Common.{ap, refl, arith}
use Rattle.shard_journal.specs.Settings.{settings_of}
use Rattle.world_theory.specs.World.{CoreShard}
use Rattle.world_theory.proofs.Routing.{read_is}
use Rattle.span_world.proofs.Looking.{looks_stay}
use Rattle.span_world.proofs.Items.{ships}
use Rattle.span_world.specs.Core.{config_of}
use Rattle.span_world.specs.contracts.world.World.{the_view}
use Rattle.span_world.proofs.world.World.ship.Goals as goal

pub invariant_of-self-2 : goal.invariant_of-self-2
invariant_of-self-2 c =
    let m = read_is c.self.inside.shards.items c.args.shard c.index_mut.result.now (omega arith) c.index_mut.ensures.value in
    (c.self.invariant.0, looks_stay (settings_of c.self.inside.settings) c.self.inside.shards.items c.self.inside.looks.items c.args.shard c.index_mut.result.now c.ship.new.self c.self.invariant.1 m (ap (λ (sh : CoreShard). sh.journal) c.ship.ensures.rest), c.self.invariant.2)

pub returns : goal.returns
returns c =
    let m = read_is c.self.inside.shards.items c.args.shard c.index_mut.result.now (omega arith) c.index_mut.ensures.value in
    rw (← c.self.view_is) (
      refl,
      rw (c.push_back_reserved.ensures.items, c.try_reserve.ensures.items) (ships (config_of (the_view c.self.inside).config) (the_view c.self.inside).world c.args.shard c.index_mut.result.now m c.ship.result c.ship.new.self c.ship.ensures.span c.ship.ensures.rest),
    )
