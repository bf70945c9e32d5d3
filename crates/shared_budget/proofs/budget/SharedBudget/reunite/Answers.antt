use Rattle.std.proofs.Common.{rules, sym, ap, ◌∙◌, subst, map}
use Rattle.shared_budget.specs.Budget.{cell_of}
use Rattle.shared_budget.specs.Columns.{united}
use Rattle.shared_budget.proofs.AllNodes.{each_init, each_same, each_step, each_end, seats_gone, UnitingEach}
use Rattle.shared_budget.proofs.budget.SharedBudget.reunite.Goals as goal

pub loop-other-init : goal.loop-other-init
loop-other-init g c = subst (UnitingEach c.args.seats.items c.pop.new.self.items) (sym c.into_parts-nodes.ensures) (each_init _ _ _ c.requires c.in-Some.ensures.items)

pub unite_nodes-requires : goal.unite_nodes-requires
unite_nodes-requires g c = ap (map cell_of) c.into_parts-others.ensures ∙ each_same _ _ _ _ _ c.loop-other.invariant c.in-Some-pop.ensures.items

pub loop-other-preserved : goal.loop-other-preserved
loop-other-preserved g c =
    each_step _ _ _ c.loop-other.nodes.items c.in-Some-pop.other _ c.loop-other.invariant c.in-Some-pop.ensures.items (c.unite_nodes.ensures ∙ ap (united c.loop-other.nodes.items) c.into_parts-others.ensures)

pub returns : goal.returns
returns g c = each_end _ _ _ c.loop-other.invariant (seats_gone _ (search rules)) c.compare_each.ensures
