-- What the limiter of a script grants over any stretch of seconds.
use Rattle.std.specs.Prelude.{ℕ, ◌≡◌, ◌≤◌, Some}
use Rattle.policy_tree.specs.declared.limit.Limit.{Limit}
use Rattle.policy_tree.specs.Tree.{limiters}
use Rattle.rate_budget.specs.Grant.{askings_of, limit_among}
use Rattle.rate_windows.specs.Window.{granted_over, most_over}
use Rattle.rate_windows.specs.Laws.{AreAnsweredAfter}
use Rattle.script_run.specs.Laws.{OfEachScript}

-- each asking of a script is granted exactly where the ones before it say so, at its node; and each limiter node of the
-- policies grants in any stretch of seconds at most what its limit allows
abbrev pub ScriptsGrantInAnyWindow : Type 0
ScriptsGrantInAnyWindow = OfEachScript (λ s sizes lanes shards sink after. AreAnsweredAfter s.policies after.askings
    × ((node : ℕ) (limit : Limit) → limit_among (limiters s.policies) node ≡ Some limit
    → (first seconds : ℕ) → granted_over first seconds (askings_of node after.askings) ≤ most_over seconds limit))
