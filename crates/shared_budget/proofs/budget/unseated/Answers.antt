use Rattle.std.proofs.Common.{◌≡◌, ◌++◌, ◌∷◌, [], sym, ap, ◌∙◌, subst, List, length, ◌+◌}
use Rattle.shared_budget.specs.Seats.{Stand}
use Rattle.shared_budget.specs.Budget.{AreNewSeatsFrom}
use Rattle.shared_budget.proofs.AllNodes.{seats_more}
use Rattle.shared_budget.proofs.budget.unseated.Goals as goal

pub loop-preserved : goal.loop-preserved
loop-preserved g c =
    let is = c.in_ok-push.ensures.items ∙ ap (λ (seat : List Stand). c.loop.all.items ++ seat ∷ []) c.unseated.ensures in
    subst (λ (all : List (List Stand)). (length all ≡ c.loop.counter + 1) × AreNewSeatsFrom [] [] c.args.seats 0 all) (sym is) (seats_more c.args.seats c.loop.counter c.loop.all.items c.loop.invariant)
