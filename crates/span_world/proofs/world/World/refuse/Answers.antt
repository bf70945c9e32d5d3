use Rattle.std.proofs.Common.{◌≡◌, Some, length, refl, sym, subst, ◌∙◌}
use Rattle.std.specs.List.{position}
use Rattle.world_theory.specs.World.{CoreLane, goes_to}
use Rattle.span_world.specs.Core.{config_of}
use Rattle.span_world.specs.contracts.world.World.{the_view}
use Rattle.world_theory.proofs.Routing.{read_is, reads_same, refuses}
use Rattle.world_theory.specs.Step.{refuse}
use Rattle.span_world.proofs.Items.{refused_step}
use Rattle.span_world.proofs.Routes.{placed, none_placed, enabled}
use Rattle.span_world.proofs.world.World.refuse.Goals as goal

pub returns-in_default : goal.returns-in_default
returns-in_default c = (refl, (none_placed c.args.self.now.world c.args.lane c.args.shard (config_of c.args.self.now.config) (sym c.next_for.ensures ∙ c.in_default.is)).1)

pub returns-in_err-try_reserve : goal.returns-in_err-try_reserve
returns-in_err-try_reserve c =
    refused_step c.args.self.now _ (refuse c.args.lane c.args.shard) c.from_residual.result c.from_residual.ensures
    (rw (← c.self.view_is, c.try_reserve.ensures.items) refl)
    (enabled (config_of c.args.self.now.config) c.args.self.now.world c.args.lane c.args.shard c.in-Some.place (sym c.next_for.ensures ∙ c.in-Some.is)).1

pub returns : goal.returns
returns c =
    let p = placed (the_view c.self.inside) c.args.self.now c.self.view_is c.args.lane c.args.shard c.in-Some.place (sym c.next_for.ensures ∙ c.in-Some.is) in
    let n = length c.self.inside.shards.items in
    let l = c.index_mut.result.now in
    let m = read_is c.self.inside.lanes.items c.args.lane l p.has_lane c.index_mut.ensures.value in
    let is = subst (λ (x : CoreLane). position (goes_to n c.args.shard) x.unrouted ≡ Some c.in-Some.place) (reads_same c.self.inside.lanes.items c.args.lane p.from l p.lane_is m) p.place in
    rw (← c.self.view_is) (
      refl,
      rw (c.push_reserved.ensures.items, c.try_reserve.ensures.items, c.dropped.ensures) (refuses (config_of (the_view c.self.inside).config) (the_view c.self.inside).world c.args.lane c.args.shard l p.to m p.shard_is n refl (position (goes_to n c.args.shard) l.unrouted) refl
          c.in-Some.place c.take_out-span.result c.take_out-span.new.self is c.take_out-span.ensures.span c.take_out-span.ensures.rest),
    )
