use Rattle.std.proofs.Common.{ℕ, ap, sym, arith, ◌∙◌}
use Rattle.std.specs.List.{position}
use Rattle.world_theory.specs.World.{goes_to}
use Rattle.span_world.specs.contracts.world.World.{the_view}
use Rattle.world_theory.proofs.Routing.{read_is, some_read}
use Rattle.span_world.proofs.Routes.{placed_as}
use Rattle.span_world.proofs.world.World.next_for.Goals as goal

pub returns : goal.returns
returns c =
    let l = c.index.result.now in
    let g = read_is c.self.inside.lanes.items c.args.lane l (omega arith) c.index.ensures in
    let h = some_read c.self.inside.shards.items c.args.shard (omega arith) in
    rw (← c.self.view_is) (c.next_for.ensures ∙ ap (λ (n : ℕ). position (goes_to n c.args.shard) l.unrouted) (c.len-2.ensures ∙ c.self.inside.shards.ok.0) ∙ sym (placed_as (the_view c.self.inside).world c.args.lane c.args.shard l h.0 g h.1))
