use Rattle.std.proofs.Common.{◌≡◌, true, Some, slice_get, ap, sym, subst, arith, ◌∙◌}
use Rattle.journal_theory.specs.Journal.{Settings}
use Rattle.world_theory.specs.World.{settings, settings_for}
use Rattle.span_world.specs.Core.{Core, config_of}
use Rattle.span_world.specs.Answers.{may_take}
use Rattle.span_world.specs.contracts.world.World.{the_view}
use Rattle.world_theory.proofs.Routing.{read_is}
use Rattle.span_world.proofs.Items.{end_steps}
use Rattle.span_world.proofs.world.World.end.Goals as goal

pub returns : goal.returns
returns c =
    let g = read_is c.self.inside.shards.items c.args.shard c.index.result.now (omega arith) c.index.ensures in
    let h = subst (λ (z : Core). slice_get z.world.shards c.args.shard ≡ Some c.index.result.now) c.self.view_is g in
    let is = ap (settings_for (config_of (the_view c.self.inside).config)) c.self.invariant.0 in
    let may = subst (λ (s : Settings). may_take s c.index.result.now c.args.sender ≡ true) is (sym c.may_take.ensures ∙ c.if-not-may_take.false) in
    let can = subst (λ (z : Core). may_take (settings (config_of z.config) z.world) c.index.result.now c.args.sender ≡ true) c.self.view_is may in
    end_steps c.args.self.now c.args.shard c.index.result.now h c.args.sender can (sym (c.sender_is_done.ensures c.index.result.now h) ∙ c.if-not-sender_is_done.false) c.keep_item.result c.keep_item.new.self c.keep_item.ensures
