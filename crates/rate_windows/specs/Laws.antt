-- What holds over any stretch of seconds: of the askings of one node, of those of all nodes of some policies, of a
-- limiter that one thread asks, and of the seats of one that several threads ask.
use Rattle.std.specs.Prelude.{ℕ, ◌≡◌, ◌≤◌, List, [], ◌∷◌, Some, All}
use Rattle.policy_tree.specs.declared.limit.Limit.{Limit}
use Rattle.policy_tree.specs.Tree.{Policies, limiters}
use Rattle.rate_budget.specs.Grant.{Asking, askings_of, limit_among, granted_after}
use Rattle.rate_budget.specs.Budget.{limiter_counts, AsksBudgets}
use Rattle.rate_budget.specs.declared.count.LimiterCount.{LimiterCount}
use Rattle.shared_budget.specs.declared.known.Asked.{Asked}
use Rattle.shared_budget.specs.History.{askings, IsLegal}
use Rattle.shared_budget.specs.Seats.{Stand, StandsIn}
use Rattle.shared_budget.specs.Budget.{column, HaveOneHistoryEach}
use Rattle.rate_windows.specs.Window.{AreAnswered, granted_over, granted_to_asked_over, NoSecondGoesBack, most_over}

-- ---- the askings of one node

-- from any second on, and over any number of seconds
abbrev pub AnyWindow : Type 0
AnyWindow = (limit : Limit) (own : List Asking) → AreAnswered limit own → (first seconds : ℕ) → granted_over first seconds own ≤ most_over seconds limit

-- the same by the seconds that the askings name, where none goes back
abbrev pub AnyWindowOfOwnSeconds : Type 0
AnyWindowOfOwnSeconds = (limit : Limit) (own : List Asking) → AreAnswered limit own → NoSecondGoesBack own → (first seconds : ℕ) → granted_to_asked_over first seconds own ≤ most_over seconds limit

-- ---- the askings of all nodes

-- each asking is granted exactly where the ones before it say so, at its node of the policies
abbrev pub AreAnsweredAfter : Policies → List Asking → Type 0
AreAnsweredAfter policies [] = Unit {0}
AreAnsweredAfter policies (a ∷ earlier) = (a.granted ≡ granted_after policies earlier a.second a.amount a.node) × AreAnsweredAfter policies earlier

-- at each limiter node of the policies
abbrev pub AnyWindowOfPolicies : Type 0
AnyWindowOfPolicies = (policies : Policies) (asked : List Asking) → AreAnsweredAfter policies asked
    → (node : ℕ) (limit : Limit) → limit_among (limiters policies) node ≡ Some limit
    → (first seconds : ℕ) → granted_over first seconds (askings_of node asked) ≤ most_over seconds limit

-- ---- a limiter that one thread asks

-- asked so, in turn, the new counts of these policies become these: the latest asking comes first
abbrev pub AskedInTurn : Policies → List Asking → List LimiterCount → Type 0
AskedInTurn policies [] counts = counts ≡ limiter_counts policies []
AskedInTurn policies (a ∷ earlier) counts = (before : List LimiterCount) × AskedInTurn policies earlier before × AsksBudgets before a.node a.second a.amount a.granted counts

-- at each limiter node of the policies
abbrev pub AnyWindowOfBudgets : Type 0
AnyWindowOfBudgets = (policies : Policies) (asked : List Asking) (counts : List LimiterCount) → AskedInTurn policies asked counts
    → (node : ℕ) (limit : Limit) → limit_among (limiters policies) node ≡ Some limit
    → (first seconds : ℕ) → granted_over first seconds (askings_of node asked) ≤ most_over seconds limit

-- ---- a limiter that several threads ask

-- in one history of each node, with every seat's askings, each of which is granted as the ones before it say
abbrev pub AnyWindowOfSeats : Type 0
AnyWindowOfSeats = (seats : List (List Stand)) → HaveOneHistoryEach seats → (place : ℕ)
    → (log : List Asked) × All (λ (s : Stand). IsLegal s.1.node s.1.limit log × StandsIn log s × ((first seconds : ℕ) → granted_over first seconds (askings log) ≤ most_over seconds s.1.limit)) (column place seats)
