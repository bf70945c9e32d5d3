use Rattle.std.proofs.Common.{◌≡◌, ◌≢◌, ◌<◌, ◌++◌, ℕ, List, [], false, true}
use Rattle.otlp_types.specs.declared.arrival.Item.TheVariants.{Tick}
use Rattle.drop_ledger.specs.Places.{TallyState}
use Rattle.lane_queue.specs.declared.calls.Call.{Call}
use Rattle.lane_queue.specs.Ends.{queues}
use Rattle.lane_queue.specs.Merges.{of}
use Rattle.policy_tree.specs.Tree.{limiters}
use Rattle.policy_tree.specs.Meaning.{meaning}
use Rattle.policy_eval.specs.Meaning.{knows}
use Rattle.journal_theory.specs.Journal.{Entry}
use Rattle.shard_core.specs.Held.{has_due, is_finished, settings}
use Rattle.shard_worker.specs.Work.{items, IsBehind}
use Rattle.shard_worker.specs.News.{IsTold}
use Rattle.shard_worker.specs.Turns.{HoldsBack, IsCalled}
use Rattle.shard_worker.proofs.order.take_tick.Given as goal

abbrev pub invariant-loop-other : goal.invariant-loop-other
invariant-loop-other g l = (has_due l.turns.shard ≡ false) × (is_finished l.turns.shard ≡ false) × (settings l.turns.shard ≡ settings l.fn.turns.shard)
    × (l.turns.number ≡ l.fn.turns.number) × (l.turns.desk.sender.queue ≡ l.fn.turns.desk.sender.queue) × (queues l.receiver.ends ≡ queues l.fn.receiver.ends)
    × (knows (g.RateLimits.Limiter.has_node l.turns.limiter) (limiters (meaning l.turns.shard.policies)) ≡ true)
    × ((node : ℕ) → g.RateLimits.Limiter.has_node l.turns.limiter node ≡ g.RateLimits.Limiter.has_node l.fn.turns.limiter node)
    × ((first : g.row.RateLimits.Denot) (before : TallyState) (earlier : List (ℕ × Entry)) →
    HoldsBack (IsTold g.Observer.Watcher.unheard g.Observer.Watcher.told_decided g.Observer.Watcher.told_evicted g.Observer.Watcher.told_late l.observer l.fn.turns.number) g.RateLimits.Limiter.asks first (settings l.fn.turns.shard) l.fn.receiver.ends before l.fn.turns.shard l.fn.turns.desk.sender.items l.fn.turns.desk.tally l.fn.turns.limiter earlier l.place (Tick l.moment)
    → (drained : List (ℕ × Entry)) × (calls : List Call) × (of l.place (items drained) ≡ []) × IsCalled l.fn.receiver.calls l.receiver.calls drained calls
    × ((k : ℕ) → k < l.other → k ≢ l.place → IsBehind g.QueueRoom.Room.capacity earlier drained calls k)
    × HoldsBack (IsTold g.Observer.Watcher.unheard g.Observer.Watcher.told_decided g.Observer.Watcher.told_evicted g.Observer.Watcher.told_late l.observer l.fn.turns.number) g.RateLimits.Limiter.asks first (settings l.fn.turns.shard) l.receiver.ends before l.turns.shard l.turns.desk.sender.items l.turns.desk.tally l.turns.limiter (earlier ++ drained) l.place (Tick l.moment))
