use Rattle.std.proofs.Common.{◌≡◌, Some, slice_get, ap, sym, subst, arith, ◌∙◌}
use Rattle.journal_theory.specs.Journal.{Settings}
use Rattle.world_theory.specs.World.{settings, settings_for}
use Rattle.span_world.specs.Core.{Core, config_of}
use Rattle.span_world.specs.Answers.{entry_of_first}
use Rattle.span_world.specs.contracts.world.World.{the_view}
use Rattle.world_theory.proofs.Routing.{read_is}
use Rattle.span_world.proofs.Items.{take_steps}
use Rattle.span_world.proofs.world.World.take.Goals as goal

pub returns : goal.returns
returns c =
    let sh = c.index.result.now in
    let e = c.in-Some.entry in
    let g = read_is c.self.inside.shards.items c.args.shard sh (omega arith) c.index.ensures in
    let h = subst (λ (z : Core). slice_get z.world.shards c.args.shard ≡ Some sh) c.self.view_is g in
    let is = ap (settings_for (config_of (the_view c.self.inside).config)) c.self.invariant.0 in
    let may = subst (λ (s : Settings). entry_of_first s sh c.args.refused c.args.lost sh.queue ≡ Some e) is (sym c.in_ok-next.ensures.entry ∙ c.in-Some.is) in
    let can = subst (λ (z : Core). entry_of_first (settings (config_of z.config) z.world) sh c.args.refused c.args.lost sh.queue ≡ Some e) c.self.view_is may in
    take_steps c.args.self.now c.args.shard sh h c.args.refused c.args.lost e can c.keep_entry.result c.keep_entry.new.self c.keep_entry.ensures
