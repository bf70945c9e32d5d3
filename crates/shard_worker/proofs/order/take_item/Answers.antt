-- An item is taken in its order.
-- For the clause `takes` of `take_item`.
use Rattle.std.proofs.Common.{ℕ, ◌∙◌, sym, ap, subst}
use Rattle.otlp_types.specs.declared.arrival.Item.{Item}
use Rattle.otlp_types.specs.declared.arrival.Item.TheVariants.{Span, End}
use Rattle.journal_theory.specs.Journal.{has_ids}
use Rattle.shard_core.specs.Held.{settings}
use Rattle.shard_worker.specs.Work.{alone, is_tick, journal_of}
use Rattle.shard_worker.specs.News.{IsTold}
use Rattle.shard_worker.specs.Turns.{HoldsBack}
use Rattle.shard_worker.proofs.HeldBack.{releasing}
use Rattle.shard_worker.proofs.order.take_item.Goals as goal

pub returns-in-Tick-clause-takes : goal.returns-in-Tick-clause-takes
returns-in-Tick-clause-takes g c = λ first before earlier past place next called holds.
    let T = λ (n : ℕ). IsTold g.Observer.Watcher.unheard g.Observer.Watcher.told_decided g.Observer.Watcher.told_evicted g.Observer.Watcher.told_late c.args.observer.now n in
    c.take_tick.ensures.takes first before earlier past place next called
    (subst (λ i. HoldsBack (T c.args.turns.now.number) g.RateLimits.Limiter.asks first (settings c.args.turns.now.shard) c.args.receiver.now.ends before c.args.turns.now.shard c.args.turns.now.desk.sender.items c.args.turns.now.desk.tally c.args.turns.now.limiter earlier place i) c.in-Tick.is holds)

pub returns-in-Span-clause-takes : goal.returns-in-Span-clause-takes
returns-in-Span-clause-takes g c = λ first before earlier past place next called holds.
    let T = λ (n : ℕ). IsTold g.Observer.Watcher.unheard g.Observer.Watcher.told_decided g.Observer.Watcher.told_evicted g.Observer.Watcher.told_late c.args.observer.now n in
    let A = g.RateLimits.Limiter.asks in
    let item : Item = Span c.in-Span.arrival in
    let waits = subst (λ i. HoldsBack (T c.args.turns.now.number) A first (settings c.args.turns.now.shard) c.args.receiver.now.ends before c.args.turns.now.shard c.args.turns.now.desk.sender.items c.args.turns.now.desk.tally c.args.turns.now.limiter earlier place i) c.in-Span.is holds in
    let t = c.turn.ensures.told first before (journal_of earlier) waits.3 in (
      alone (place, t.0.taken),
      ap is_tick t.0.item_is,
      called,
      releasing (T c.args.turns.now.number) A first g.QueueRoom.Room.capacity (settings c.args.turns.now.shard) before place item c.args.receiver.now.ends c.args.turns.now.shard c.turn.new.self.shard c.args.turns.now.desk.sender.items c.turn.new.self.desk.sender.items c.args.turns.now.desk.tally c.turn.new.self.desk.tally c.args.turns.now.limiter c.turn.new.self.limiter earlier
          c.turn.ensures.settings (sym (ap has_ids c.in-Span.is) ∙ c.requires.ids) waits t,
    )

pub returns-in-End-clause-takes : goal.returns-in-End-clause-takes
returns-in-End-clause-takes g c = λ first before earlier past place next called holds.
    let T = λ (n : ℕ). IsTold g.Observer.Watcher.unheard g.Observer.Watcher.told_decided g.Observer.Watcher.told_evicted g.Observer.Watcher.told_late c.args.observer.now n in
    let A = g.RateLimits.Limiter.asks in
    let item : Item = End c.in-End.sender in
    let waits = subst (λ i. HoldsBack (T c.args.turns.now.number) A first (settings c.args.turns.now.shard) c.args.receiver.now.ends before c.args.turns.now.shard c.args.turns.now.desk.sender.items c.args.turns.now.desk.tally c.args.turns.now.limiter earlier place i) c.in-End.is holds in
    let t = c.turn-in-End.ensures.told first before (journal_of earlier) waits.3 in (
      alone (place, t.0.taken),
      ap is_tick t.0.item_is,
      called,
      releasing (T c.args.turns.now.number) A first g.QueueRoom.Room.capacity (settings c.args.turns.now.shard) before place item c.args.receiver.now.ends c.args.turns.now.shard c.turn-in-End.new.self.shard c.args.turns.now.desk.sender.items c.turn-in-End.new.self.desk.sender.items c.args.turns.now.desk.tally c.turn-in-End.new.self.desk.tally c.args.turns.now.limiter c.turn-in-End.new.self.limiter earlier
          c.turn-in-End.ensures.settings (sym (ap has_ids c.in-End.is) ∙ c.requires.ids) waits t,
    )
