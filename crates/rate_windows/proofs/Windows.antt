-- The laws of windows, from one node's askings to those of all nodes and seats.
-- For all laws of the crate.
use Rattle.std.proofs.Common.{◌≡◌, ℕ, ◌+◌, ◌≤◌, ◌==◌, max, Bool, true, false, cond, List, [], ◌∷◌, filter, sum_by, Option, Some, refl, sym, ap, subst, ◌∙◌, arith}
use Rattle.std.proofs.lemmas.Bool.Decides.{nat_tests}
use Rattle.std.proofs.lemmas.List.Sums.{sum_by-cons}
use Rattle.policy_tree.specs.declared.limit.Limit.{Limit}
use Rattle.policy_tree.specs.declared.limit.Limit.TheVariants.{Spans, Bytes}
use Rattle.policy_tree.specs.Tree.{Policies, limiters}
use Rattle.rate_budget.specs.Grant.{Asking, latest_second, taken, grants, askings_of, limit_among, granted_within, granted_after}
use Rattle.rate_budget.specs.Budget.{limiter_counts, grants_at, after}
use Rattle.rate_budget.specs.BudgetLaws.{counts-grant, counts-after}
use Rattle.rate_budget.specs.declared.count.LimiterCount.{LimiterCount}
use Rattle.shared_budget.specs.declared.known.Asked.{Asked}
use Rattle.shared_budget.specs.History.{askings, IsLegal}
use Rattle.rate_windows.specs.Window.{AreAnswered, is_within, granted_over, granted_to_asked_over, NoSecondGoesBack, most_over}
use Rattle.rate_windows.specs.Laws.{AnyWindow, AnyWindowOfOwnSeconds, AreAnsweredAfter, AnyWindowOfPolicies, AskedInTurn, AnyWindowOfBudgets, AnyWindowOfSeats}
use Rattle.rate_windows.proofs.OfSpans.{over-spans}
use Rattle.rate_windows.proofs.OfBytes.{over-bytes}

-- ---- the askings of one node

pub any-window : AnyWindow
any-window (Spans per_second) own is first seconds = over-spans per_second own is first seconds
any-window (Bytes per_second burst) own is first seconds = over-bytes per_second burst own is first seconds

-- the sum behind one asking more
filter-more : (p : Asking → Bool) (a : Asking) (own : List Asking) → sum_by taken (filter p (a ∷ own)) ≡ cond (p a) (taken a) 0 + sum_by taken (filter p own)
filter-more p a own = (elim (p a) as (λ b. sum_by taken (cond b (a ∷ filter p own) (filter p own)) ≡ cond b (taken a) 0 + sum_by taken (filter p own)) [
  | true ↦ sum_by-cons taken a (filter p own)
  | false ↦ omega arith
])

-- where no second goes back, each asking counts in its own
own-seconds : (first seconds : ℕ) (own : List Asking) → NoSecondGoesBack own → granted_to_asked_over first seconds own ≡ granted_over first seconds own
own-seconds first seconds [] h = refl
own-seconds first seconds (a ∷ own) h =
    let counted : a.second ≡ max a.second (latest_second own) = omega (arith, h.0) in
    filter-more (λ x. is_within first seconds x.second) a own
    ∙ ap (λ m. cond (is_within first seconds m) (taken a) 0 + granted_to_asked_over first seconds own) counted
    ∙ ap (λ m. cond (is_within first seconds (latest_second (a ∷ own))) (taken a) 0 + m) (own-seconds first seconds own h.1)

pub any-window-own : AnyWindowOfOwnSeconds
any-window-own limit own is h first seconds = subst (λ m. m ≤ most_over seconds limit) (sym (own-seconds first seconds own h)) (any-window limit own is first seconds)

-- ---- a limiter that one thread asks

same-node : (a b : ℕ) → (a == b) ≡ true → a ≡ b
same-node a b h = grind (arith, nat_tests)

-- one asking more, where it is of the node or of another
answered-by : (policies : Policies) (node : ℕ) (limit : Limit) → limit_among (limiters policies) node ≡ Some limit → (a : Asking) (earlier : List Asking)
    → a.granted ≡ granted_after policies earlier a.second a.amount a.node → AreAnswered limit (askings_of node earlier)
    → (b : Bool) → (a.node == node) ≡ b → AreAnswered limit (cond b (a ∷ askings_of node earlier) (askings_of node earlier))
answered-by policies node limit known a earlier granted others true e =
    let here : granted_after policies earlier a.second a.amount a.node ≡ grants limit (askings_of node earlier) a.second a.amount
    = ap (λ m. granted_within (limit_among (limiters policies) m) (askings_of m earlier) a.second a.amount) (same-node a.node node e)
    ∙ ap (λ (l : Option Limit). granted_within l (askings_of node earlier) a.second a.amount) known in
    (granted ∙ here, others)
answered-by policies node limit known a earlier granted others false e = others

-- and so each is answered at its node as the ones before it say
answered-at : (policies : Policies) (node : ℕ) (limit : Limit) → limit_among (limiters policies) node ≡ Some limit → (asked : List Asking) → AreAnsweredAfter policies asked → AreAnswered limit (askings_of node asked)
answered-at policies node limit known [] h = tt
answered-at policies node limit known (a ∷ earlier) h = answered-by policies node limit known a earlier h.0 (answered-at policies node limit known earlier h.1) (a.node == node) refl

pub any-window-of-policies : AnyWindowOfPolicies
any-window-of-policies policies asked h node limit known first seconds = any-window limit (askings_of node asked) (answered-at policies node limit known asked h) first seconds

-- the counts are those of the askings, each of which is answered so
counts-are : (policies : Policies) (asked : List Asking) (counts : List LimiterCount) → AskedInTurn policies asked counts → (counts ≡ limiter_counts policies asked) × AreAnsweredAfter policies asked
counts-are policies [] counts h = (h, tt)
counts-are policies (a ∷ earlier) counts h =
    let were = counts-are policies earlier h.0 h.1 in
    let granted : a.granted ≡ granted_after policies earlier a.second a.amount a.node
    = h.2.0 ∙ ap (λ (cs : List LimiterCount). grants_at cs a.node a.second a.amount) were.0 ∙ counts-grant policies earlier a.node a.second a.amount in
    (h.2.1 ∙ ap (λ (cs : List LimiterCount). after cs a.node a.second a.amount) were.0 ∙ counts-after policies a earlier granted, (granted, were.1))

pub any-window-of-budgets : AnyWindowOfBudgets
any-window-of-budgets policies asked counts h = any-window-of-policies policies asked (counts-are policies asked counts h).1

-- ---- a limiter that several threads ask

-- a node's history is answered
legal-is-answered : (node : ℕ) (limit : Limit) (log : List Asked) → IsLegal node limit log → AreAnswered limit (askings log)
legal-is-answered node limit [] h = tt
legal-is-answered node limit (e ∷ log) h = (h.1, legal-is-answered node limit log h.2)

pub any-window-of-seats : AnyWindowOfSeats
any-window-of-seats seats h place =
    let o = h place in
    (o.0, λ k d lt. ((o.1 k d lt).0, (o.1 k d lt).2, λ first seconds. any-window _ (askings o.0) (legal-is-answered _ _ o.0 (o.1 k d lt).0) first seconds))
