use Rattle.std.proofs.Common.{◌<◌, length, refl, ap, sym, subst, ◌∙◌}
use Rattle.shard_journal.specs.Settings.{settings_of}
use Rattle.world_theory.specs.World.{CoreShard, settings_for}
use Rattle.world_theory.specs.Step.{after_taking}
use Rattle.span_world.specs.Answers.{queue_after}
use Rattle.span_world.specs.Core.{Core, config_of}
use Rattle.span_world.specs.contracts.world.World.{the_view}
use Rattle.world_theory.proofs.Routing.{read_is, reads_same, put_back}
use Rattle.span_world.proofs.Items.{kept_is, refused_entry}
use Rattle.span_world.proofs.Looking.{looks_put}
use Rattle.span_world.proofs.world.World.keep_entry.Goals as goal

pub returns-in_err-take : goal.returns-in_err-take
returns-in_err-take c =
    let l : c.args.shard < length c.self.inside.shards.items = subst (λ (z : Core). c.args.shard < length z.world.shards) (sym c.self.view_is) c.requires in
    let m = read_is c.self.inside.shards.items c.args.shard c.index_mut.result.now l c.index_mut.ensures.value in
    let back = c.in_err-take.ensures.err in
    refused_entry c.args.self.now _ c.args.shard c.args.entry c.from_residual.result c.from_residual.ensures (rw (← c.self.view_is, back.0, back.2, put_back c.self.inside.shards.items c.args.shard c.index_mut.result.now m) refl)

pub invariant_of-self-2 : goal.invariant_of-self-2
invariant_of-self-2 c =
    (c.self.invariant.0, looks_put (settings_of c.self.inside.settings) c.self.inside.shards.items c.self.inside.looks.items c.args.shard c.take.new.self c.take.new.look c.self.invariant.1 c.in_ok-take.ensures.look, c.self.invariant.2)

pub returns : goal.returns
returns c =
    let l : c.args.shard < length c.self.inside.shards.items = subst (λ (z : Core). c.args.shard < length z.world.shards) (sym c.self.view_is) c.requires in
    let m = read_is c.self.inside.shards.items c.args.shard c.index_mut.result.now l c.index_mut.ensures.value in
    let e = c.args.entry in
    let by = config_of (the_view c.self.inside).config in
    let w = (the_view c.self.inside).world in
    rw (← c.self.view_is) (
      refl,
      λ sh g.
          kept_is by w c.args.shard c.index_mut.result.now e (queue_after e.item c.index_mut.result.now.queue) (settings_of c.self.inside.settings) c.take.new.self c.take.new.counted.items
          (ap (settings_for by) c.self.invariant.0) c.in_ok-take.ensures.shard c.in_ok-take.ensures.counted
          ∙ ap (λ (x : CoreShard). after_taking by w c.args.shard x e (queue_after e.item x.queue)) (reads_same c.self.inside.shards.items c.args.shard c.index_mut.result.now sh m g),
    )
