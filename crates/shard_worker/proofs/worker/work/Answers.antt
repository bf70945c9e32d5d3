-- All is taken, and then the End is shipped.
-- For the clauses of `work`.
use Rattle.shard_core.specs.Held.{settings}
use Rattle.shard_worker.specs.News.{IsTold}
use Rattle.shard_worker.proofs.Journals.{works_ended}
use Rattle.shard_worker.proofs.worker.work.Goals as goal

pub returns-clause-told : goal.returns-clause-told
returns-clause-told g c =
    let did = c.take_all.ensures in
    let turns = c.take_all.new.turns in
    let receiver = c.take_all.new.receiver in
    let same = c.ended.ensures.same in
    let told = IsTold g.Observer.Watcher.unheard g.Observer.Watcher.told_decided g.Observer.Watcher.told_evicted g.Observer.Watcher.told_late c.args.observer.now c.args.turns.number in (
      did.takes.0,
      works_ended told g.RateLimits.Limiter.asks c.args.turns.limiter g.QueueRoom.Room.capacity c.args.turns.number turns.number (settings c.args.turns.shard) turns.shard c.ended.result.shard receiver c.ended.result.receiver turns.desk.sender c.ended.result.sender c.args.turns.desk.tally turns.desk.tally c.ended.result.tally turns.limiter c.ended.result.limiter _
          did.settings did.finished did.number c.ended.ensures.shipped same.0 same.1 same.2 same.3 did.takes.1 did.takes.2,
      did.takes.2.2,
    )

pub returns-clause-works : goal.returns-clause-works
returns-clause-works g c = let told = returns-clause-told g c in (told.0, told.1)
