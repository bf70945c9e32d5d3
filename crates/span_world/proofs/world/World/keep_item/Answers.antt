use Rattle.std.proofs.Common.{Bool, false, List, subst}
use Rattle.span_world.specs.Answers.{KeepsEntry}
use Rattle.span_world.proofs.world.World.keep_item.Goals as goal

pub returns : goal.returns
returns c =
    let P = λ (given : List (List Bool)). KeepsEntry c.args.self.now c.args.shard (record { item = c.args.item; refused = false; lost = false; answers = given }) c.keep_entry.result c.keep_entry.new.self in
    subst P c.new.ensures.items c.keep_entry.ensures
