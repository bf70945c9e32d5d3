-- What each limiter of running threads grants over any stretch of seconds.
use Rattle.std.specs.Prelude.{◌≡◌, ◌≤◌, ◌<◌, ℕ, List, Some, All, slice_get}
use Rattle.policy_tree.specs.declared.limiter_node.LimiterNode.{LimiterNode}
use Rattle.shared_budget.specs.declared.known.Asked.{Asked}
use Rattle.shared_budget.specs.History.{askings, IsLegal}
use Rattle.shared_budget.specs.Seats.{StandsIn}
use Rattle.shared_budget.specs.Budget.{column}
use Rattle.world_theory.specs.World.{CoreConfig}
use Rattle.span_weave.specs.Threads.{Threads}
use Rattle.run_weave.specs.Ran.{LimiterAnswers}
use Rattle.rate_windows.specs.Window.{granted_over, most_over}

-- Where the limiter's answers at the threads' decisions are those of its histories: each limiter node of the policies
-- has one history with the askings of every shard's seat, each granted as the ones before it say, and by it grants in
-- any stretch of seconds at most what its limit allows.
abbrev pub LimitersGrantInAnyWindow : Type 0
LimitersGrantInAnyWindow = (c : CoreConfig) (nodes : List LimiterNode) (lanes shards : ℕ) (t : Threads) → 0 < shards → (h : LimiterAnswers c nodes lanes shards t)
    → (place : ℕ) (l : LimiterNode) → slice_get nodes place ≡ Some l
    → (log : List Asked) × IsLegal l.node l.limit log × All (StandsIn log) (column place h.last) × ((first seconds : ℕ) → granted_over first seconds (askings log) ≤ most_over seconds l.limit)
