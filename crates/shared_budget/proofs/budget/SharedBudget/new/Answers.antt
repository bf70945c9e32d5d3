use Rattle.std.proofs.Common.{rules, ◌≡◌, ◌+◌, ◌<◌, ◌++◌, ◌∷◌, [], List, take, length, get_or, sym, ap, ◌∙◌, subst, ℕ, suc, arith}
use Rattle.std.proofs.Math.Seq.{take-suc}
use Rattle.policy_tree.specs.declared.limit.Limit.TheVariants.{Spans}
use Rattle.policy_tree.specs.declared.limiter_node.LimiterNode.{LimiterNode}
use Rattle.shared_budget.specs.Seats.{Stand}
use Rattle.shared_budget.specs.Budget.{AreNewSeats}
use Rattle.shared_budget.proofs.AllNodes.{new_are_seats, new_more}
use Rattle.shared_budget.proofs.budget.SharedBudget.new.Goals as goal

pub add_column-requires-clause-seats : goal.add_column-requires-clause-seats
add_column-requires-clause-seats g c = new_are_seats _ _ _ c.in_ok-column.column.items c.in_ok-column.ensures

pub loop-limiter-preserved : goal.loop-limiter-preserved
loop-limiter-preserved g c =
    let items : List LimiterNode = c.as_slice-limiter-items.result.now in
    let i = c.loop-limiter.limiter-index in
    let none : LimiterNode = record { node = 0; limit = Spans 0 } in
    let l : LimiterNode = get_or items i none in
    let within : i < length items = search rules in
    let next : i + 1 ≡ suc i = omega arith in
    let more : take (i + 1) items ≡ take i items ++ l ∷ [] = ap (λ (n : ℕ). take n items) next ∙ take-suc items i none within in
    let added = new_more (take i items) l c.args.seats c.loop-limiter.all.items c.in_ok-column.column.items c.loop-limiter.invariant c.in_ok-column.ensures in
    subst (λ (ls : List LimiterNode). AreNewSeats ls c.args.seats c.add_column.new.all.items) (sym more)
    (subst (λ (all : List (List Stand)). AreNewSeats (take i items ++ l ∷ []) c.args.seats all) (sym c.in_ok-add_column.ensures) added)
