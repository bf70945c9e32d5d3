use Rattle.std.proofs.Common.{◌≡◌, ◌++◌, ℕ, List, length, true, false}
use Rattle.lane_queue.specs.Ends.{queues}
use Rattle.policy_tree.specs.Tree.{limiters}
use Rattle.policy_tree.specs.Meaning.{meaning}
use Rattle.policy_eval.specs.Meaning.{knows}
use Rattle.shard_core.specs.Held.{has_due, is_finished, settings}
use Rattle.shard_worker.specs.Work.{Round, AreRounds, taken_by, calls_by}
use Rattle.shard_worker.specs.News.{IsTold}
use Rattle.shard_worker.specs.Turns.{HasTaken}
use Rattle.shard_worker.proofs.worker.take_all.Given as goal

abbrev pub invariant-loop : goal.invariant-loop
invariant-loop g l = (has_due l.turns.shard ≡ false) × (is_finished l.turns.shard ≡ false) × (settings l.turns.shard ≡ settings l.fn.turns.shard)
    × (l.turns.number ≡ l.fn.turns.number) × (l.turns.desk.sender.queue ≡ l.fn.turns.desk.sender.queue) × (queues l.receiver.ends ≡ queues l.fn.receiver.ends)
    × (knows (g.RateLimits.Limiter.has_node l.turns.limiter) (limiters (meaning l.turns.shard.policies)) ≡ true)
    × ((node : ℕ) → g.RateLimits.Limiter.has_node l.turns.limiter node ≡ g.RateLimits.Limiter.has_node l.fn.turns.limiter node)
    × ((rounds : List Round) × AreRounds g.QueueRoom.Room.capacity (length l.fn.receiver.ends) (settings l.fn.turns.shard).senders rounds
    × HasTaken (IsTold g.Observer.Watcher.unheard g.Observer.Watcher.told_decided g.Observer.Watcher.told_evicted g.Observer.Watcher.told_late l.observer l.fn.turns.number) g.RateLimits.Limiter.asks l.fn.turns.limiter (settings l.fn.turns.shard) l.receiver.ends l.fn.turns.desk.tally l.turns.shard l.turns.desk.sender.items l.turns.desk.tally l.turns.limiter (taken_by rounds)
    × (l.receiver.calls ≡ l.fn.receiver.calls ++ calls_by rounds))
