use Rattle.std.proofs.Common.{◌≡◌, List, ap, ◌∙◌}
use Rattle.rate_budget.specs.Grant.{Asking, granted_after}
use Rattle.rate_budget.specs.declared.count.LimiterCount.{LimiterCount}
use Rattle.rate_budget.specs.Budget.{grants_at, after}
use Rattle.rate_budget.specs.BudgetLaws.{counts-grant, counts-after}
use Rattle.rate_budget.proofs.budgets.BudgetsLimiter.ask.Goals as goal

pub returns-clause-stands : goal.returns-clause-stands
returns-clause-stands c = λ policies askings e.
    let node = c.args.node in
    let second = c.args.second in
    let n = c.args.amount in
    let answer : c.ask_node.result ≡ granted_after policies askings second n node
    = c.ask_node.ensures.answer ∙ ap (λ (counts : List LimiterCount). grants_at counts node second n) e ∙ counts-grant policies askings node second n in
    let a : Asking = record { node = node; second = second; amount = n; granted = c.ask_node.result } in
    (answer, c.ask_node.ensures.after ∙ ap (λ (counts : List LimiterCount). after counts node second n) e ∙ counts-after policies a askings answer)
