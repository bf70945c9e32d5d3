use Rattle.std.proofs.Common.{rules, subst}
use Rattle.shared_budget.specs.Seats.{Stand}
use Rattle.shared_budget.specs.Rule.{IsSeat}
use Rattle.shared_budget.proofs.Reunion.{all_front}
use Rattle.std.proofs.Common.{All, ◌∷◌, []}
use Rattle.shared_budget.proofs.AllNodes.{add_step, column_gone}
use Rattle.shared_budget.proofs.budget.add_column.Goals as goal

pub loop-node-preserved : goal.loop-node-preserved
loop-node-preserved g c =
    let step = add_step _ c.loop-node.all.items c.loop-node.column.items c.pop.new.self.items c.in-Some.node c.len.result c.index_mut.result.now c.add.new.self c.loop-node.invariant.0 c.loop-node.invariant.1 c.in-Some.ensures.items (search rules)
    c.index_mut.ensures.value c.in_ok-add.ensures in
    let seats = all_front (λ (s : Stand). IsSeat s.1) c.pop.new.self.items (c.in-Some.node ∷ []) (subst (All (λ (s : Stand). IsSeat s.1)) c.in-Some.ensures.items c.loop-node.invariant.2) in
    (step.0, step.1, seats)

pub returns : goal.returns
returns g c = column_gone _ c.loop-node.all.items c.loop-node.column.items c.loop-node.invariant.0 (search rules)
