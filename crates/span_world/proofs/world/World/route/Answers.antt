use Rattle.std.proofs.Common.{◌≡◌, ◌+◌, Some, length, slice_set, refl, sym, subst, ◌∙◌}
use Rattle.std.specs.List.{position}
use Rattle.world_theory.specs.World.{CoreLane, goes_to}
use Rattle.span_world.specs.Core.{config_of}
use Rattle.span_world.specs.contracts.world.World.{the_view}
use Rattle.world_theory.proofs.Routing.{read_is, reads_same, put_back, routes}
use Rattle.std.proofs.lemmas.List.{length-set}
use Rattle.shard_journal.specs.Settings.{settings_of}
use Rattle.world_theory.specs.Step.{route}
use Rattle.span_world.proofs.Items.{refused_step}
use Rattle.span_world.proofs.Looking.{looks_stay}
use Rattle.span_world.proofs.Routes.{placed, none_placed, enabled}
use Rattle.span_world.proofs.world.World.route.Goals as goal

pub returns-in_default : goal.returns-in_default
returns-in_default c = (refl, (none_placed c.args.self.now.world c.args.lane c.args.shard (config_of c.args.self.now.config) (sym c.next_for.ensures ∙ c.in_default.is)).0)

pub returns-in_err-queue_from : goal.returns-in_err-queue_from
returns-in_err-queue_from c =
    let p = placed (the_view c.self.inside) c.args.self.now c.self.view_is c.args.lane c.args.shard c.in-Some.place (sym c.next_for.ensures ∙ c.in-Some.is) in
    let m = read_is c.self.inside.lanes.items c.args.lane c.index_mut-2.result.now p.has_lane c.index_mut-2.ensures.value in
    let k = read_is c.self.inside.shards.items c.args.shard c.index_mut.result.now p.has_shard c.index_mut.ensures.value in
    let back = c.in_err-queue_from.ensures.err in
    refused_step c.args.self.now _ (route c.args.lane c.args.shard) c.from_residual.result c.from_residual.ensures
    (rw (← c.self.view_is, back.0, back.1, put_back c.self.inside.lanes.items c.args.lane c.index_mut-2.result.now m, put_back c.self.inside.shards.items c.args.shard c.index_mut.result.now k) refl)
    (enabled (config_of c.args.self.now.config) c.args.self.now.world c.args.lane c.args.shard c.in-Some.place (sym c.next_for.ensures ∙ c.in-Some.is)).0

pub invariant_of-self-2 : goal.invariant_of-self-2
invariant_of-self-2 c =
    let p = placed (the_view c.self.inside) c.args.self.now c.self.view_is c.args.lane c.args.shard c.in-Some.place (sym c.next_for.ensures ∙ c.in-Some.is) in
    let k = read_is c.self.inside.shards.items c.args.shard c.index_mut.result.now p.has_shard c.index_mut.ensures.value in
    let lanes : c.self.inside.settings.senders ≡ length (slice_set c.self.inside.lanes.items c.args.lane c.queue_from.new.lane) + 1 = rw (length-set c.self.inside.lanes.items c.args.lane c.queue_from.new.lane) c.self.invariant.0 in
    (lanes, looks_stay (settings_of c.self.inside.settings) c.self.inside.shards.items c.self.inside.looks.items c.args.shard c.index_mut.result.now c.queue_from.new.self c.self.invariant.1 k c.queue_from.ensures.journal, c.self.invariant.2)

pub returns : goal.returns
returns c =
    let p = placed (the_view c.self.inside) c.args.self.now c.self.view_is c.args.lane c.args.shard c.in-Some.place (sym c.next_for.ensures ∙ c.in-Some.is) in
    let n = length c.self.inside.shards.items in
    let l = c.index_mut-2.result.now in
    let m = read_is c.self.inside.lanes.items c.args.lane l p.has_lane c.index_mut-2.ensures.value in
    let k = read_is c.self.inside.shards.items c.args.shard c.index_mut.result.now p.has_shard c.index_mut.ensures.value in
    let is = subst (λ (x : CoreLane). position (goes_to n c.args.shard) x.unrouted ≡ Some c.in-Some.place) (reads_same c.self.inside.lanes.items c.args.lane p.from l p.lane_is m) p.place in
    rw (← c.self.view_is) (
      refl,
      routes (config_of (the_view c.self.inside).config) (the_view c.self.inside).world c.args.lane c.args.shard l c.index_mut.result.now m k n refl (position (goes_to n c.args.shard) l.unrouted) refl
          c.in-Some.place c.queue_from.new.lane c.queue_from.new.self is c.in_ok-queue_from.ensures.lane c.in_ok-queue_from.ensures.queue,
    )
