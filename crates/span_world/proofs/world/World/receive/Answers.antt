use Rattle.std.proofs.Common.{refl, sym, arith, ◌∙◌}
use Rattle.span_world.specs.Core.{config_of}
use Rattle.span_world.specs.contracts.world.World.{the_view}
use Rattle.world_theory.specs.Step.{receive}
use Rattle.span_world.proofs.Items.{refused_step}
use Rattle.world_theory.proofs.Arriving.{can_receive, receives}
use Rattle.world_theory.proofs.Routing.{read_is, reads_same, put_back}
use Rattle.span_world.proofs.world.World.receive.Goals as goal

pub returns-in_err-receive : goal.returns-in_err-receive
returns-in_err-receive c =
    let g = read_is c.self.inside.lanes.items c.args.lane c.index.result.now (omega arith) c.index.ensures in
    let m = read_is c.self.inside.lanes.items c.args.lane c.index_mut.result.now (omega arith) c.index_mut.ensures.value in
    let back = c.in_err-receive.ensures.err in
    refused_step c.args.self.now _ (receive c.args.lane c.args.ordinal c.args.moment c.args.records.items) c.from_residual.result c.from_residual.ensures
    (rw (← c.self.view_is, back.0, back.1, put_back c.self.inside.lanes.items c.args.lane c.index_mut.result.now m) refl)
    (rw (← c.self.view_is) (can_receive (config_of (the_view c.self.inside).config) (the_view c.self.inside).world c.args.lane c.args.ordinal c.args.moment c.args.records.items c.index.result.now g (sym c.has_ended.ensures ∙ c.if-has_ended.false)))

pub returns : goal.returns
returns c =
    let g = read_is c.self.inside.lanes.items c.args.lane c.index.result.now (omega arith) c.index.ensures in
    let m = read_is c.self.inside.lanes.items c.args.lane c.index_mut.result.now (omega arith) c.index_mut.ensures.value in
    let same = reads_same c.self.inside.lanes.items c.args.lane c.index_mut.result.now c.index.result.now m g in
    rw (← c.self.view_is) (
      refl,
      receives (config_of (the_view c.self.inside).config) (the_view c.self.inside).world c.args.lane c.args.ordinal c.args.moment c.args.records.items c.index_mut.result.now m (rw same (sym c.has_ended.ensures ∙ c.if-has_ended.false))
          c.receive.new.self c.receive.new.counted.items c.in_ok-receive.ensures.lane c.in_ok-receive.ensures.counted,
    )
