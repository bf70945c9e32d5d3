use Rattle.std.proofs.Common.{sym, subst, All}
use Rattle.std.proofs.lemmas.List.Elements.{All-push}
use Rattle.shared_budget.specs.Columns.{IsCompared}
use Rattle.shared_budget.proofs.budget.compare_each.Goals as goal

pub loop-node-preserved : goal.loop-node-preserved
loop-node-preserved g c = λ rest. c.loop-node.invariant (subst (All IsCompared) (sym c.in-Some.ensures.items) (All-push IsCompared _ c.in-Some.node rest c.compare.ensures.one))
