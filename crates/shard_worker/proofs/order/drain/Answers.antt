-- What waits in one queue is taken while an item of another is held back.
-- For the clauses of `drain`.
use Rattle.std.proofs.Common.{ℕ, ◌∙◌, ◌++◌, ◌∷◌, List, [], refl, sym, ap, subst, append-nil, append_assoc, inr, arith}
use Rattle.std.specs.List.{list_all}
use Rattle.otlp_types.specs.declared.arrival.Item.{Item}
use Rattle.lane_queue.specs.declared.calls.Call.TheVariants.{Popped, FoundEmpty}
use Rattle.lane_queue.specs.Ends.{EndState}
use Rattle.journal_theory.specs.Journal.{Entry}
use Rattle.shard_core.specs.Held.{settings}
use Rattle.shard_worker.specs.News.{IsTold}
use Rattle.shard_worker.specs.Turns.{HoldsBack}
use Rattle.shard_worker.specs.Work.{journal_of}
use Rattle.shard_worker.proofs.Journals.{unmarked}
use Rattle.shard_worker.proofs.HeldBack.{tells_as, of_none, of_one, one_longer, called_none, called_more, called_empty, at_none, at_more, at_empty, holding_taking, holding_skipping, behind_empty}
use Rattle.shard_worker.proofs.order.drain.Goals as goal

pub loop-init : goal.loop-init
loop-init g c =
    let T = λ (n : ℕ). IsTold g.Observer.Watcher.unheard g.Observer.Watcher.told_decided g.Observer.Watcher.told_evicted g.Observer.Watcher.told_late c.args.observer.now n in (
      c.requires.nothing_due,
      c.requires.running,
      refl,
      refl,
      refl,
      refl,
      c.requires.nodes,
      λ node. refl,
      λ first before earlier at held apart holds. (
        [],
        [],
        of_none c.args.place,
        at_none c.args.place,
        called_none c.args.receiver.now.calls,
        refl,
        subst (λ l. HoldsBack (T c.args.turns.now.number) g.RateLimits.Limiter.asks first (settings c.args.turns.now.shard) c.args.receiver.now.ends before c.args.turns.now.shard c.args.turns.now.desk.sender.items c.args.turns.now.desk.tally c.args.turns.now.limiter l at held) (sym (append-nil earlier)) holds,
      ),
    )

pub returns-in_default-clause-takes : goal.returns-in_default-clause-takes
returns-in_default-clause-takes g c = λ first before earlier at held apart holds.
    let T = λ (n : ℕ). IsTold g.Observer.Watcher.unheard g.Observer.Watcher.told_decided g.Observer.Watcher.told_evicted g.Observer.Watcher.told_late c.args.observer.now n in
    let h = c.loop.invariant.8 first before earlier at held apart holds in
    let empty = c.in_default.ensures.empty in
    let back = subst (λ (l : List (EndState Item)). HoldsBack (T c.args.turns.now.number) g.RateLimits.Limiter.asks first (settings c.args.turns.now.shard) l before c.loop.turns.shard c.loop.turns.desk.sender.items c.loop.turns.desk.tally c.loop.turns.limiter (earlier ++ h.0) at held) (sym empty.0) h.6 in (
      h.0,
      h.1 ++ FoundEmpty c.args.place ∷ [],
      h.2,
      at_empty c.args.place h.1 h.3,
      (
        called_empty c.args.receiver.now.calls c.loop.receiver.calls c.pop_at.new.self.calls h.0 h.1 c.args.place h.4 c.in_default.ensures.found,
        behind_empty g.QueueRoom.Room.capacity c.args.place at held c.loop.receiver.ends earlier h.0 h.1 apart h.6.0 empty.1,
        back,
      ),
    )

pub loop-preserved-then-not-is_taken : goal.loop-preserved-then-not-is_taken
loop-preserved-then-not-is_taken g c =
    let T = λ (n : ℕ). IsTold g.Observer.Watcher.unheard g.Observer.Watcher.told_decided g.Observer.Watcher.told_evicted g.Observer.Watcher.told_late c.args.observer.now n in
    let inv = c.loop.invariant in (
      inv.0,
      inv.1,
      inv.2,
      inv.3,
      inv.4,
      c.pop_at.ensures.same_queues ∙ inv.5,
      inv.6,
      inv.7,
      λ first before earlier at held apart holds.
          let h = inv.8 first before earlier at held apart holds in
          let item = c.in-Some.item in
          let e : Entry = unmarked item in
          let more = holding_skipping (T c.args.turns.now.number) g.RateLimits.Limiter.asks first g.QueueRoom.Room.capacity (settings c.args.turns.now.shard) before c.args.place at item held c.loop.receiver.ends c.pop_at.new.self.ends c.loop.turns.shard c.loop.turns.desk.sender.items c.loop.turns.desk.tally c.loop.turns.limiter (earlier ++ h.0)
          apart (sym c.is_taken.ensures ∙ c.if-not-is_taken.true) c.in-Some.ensures.first h.6 in (
            h.0 ++ (c.args.place, e) ∷ [],
            h.1 ++ Popped c.args.place ∷ [],
            of_one c.args.place h.0 e h.2,
            at_more c.args.place h.1 h.3,
            called_more c.args.receiver.now.calls c.loop.receiver.calls c.pop_at.new.self.calls h.0 h.1 c.args.place e h.4 c.in-Some.ensures.popped,
            one_longer c.args.place c.loop.counter h.0 e h.5,
            subst (λ l. HoldsBack (T c.args.turns.now.number) g.RateLimits.Limiter.asks first (settings c.args.turns.now.shard) c.pop_at.new.self.ends before c.loop.turns.shard c.loop.turns.desk.sender.items c.loop.turns.desk.tally c.loop.turns.limiter l at held) (append_assoc earlier h.0 ((c.args.place, e) ∷ [])) more,
          ),
    )

pub returns-then-finishes_with-clause-takes : goal.returns-then-finishes_with-clause-takes
returns-then-finishes_with-clause-takes g c = λ first before earlier at held apart holds.
    let h = c.loop.invariant.8 first before earlier at held apart holds in
    (h.0, h.1, h.2, h.3, (c.loop.receiver.ends, c.in-Some.ensures.first, h.6, c.loop.receiver.calls, h.4, c.in-Some.ensures.popped))

pub loop-preserved : goal.loop-preserved
loop-preserved g c =
    let T = λ (n : ℕ). IsTold g.Observer.Watcher.unheard g.Observer.Watcher.told_decided g.Observer.Watcher.told_evicted g.Observer.Watcher.told_late c.args.observer.now n in
    let inv = c.loop.invariant in
    let told = c.turn.ensures in (
      told.nothing_due,
      ap (λ ends. list_all (λ b. b) ends) told.ends ∙ sym c.finishes_with.ensures ∙ c.if-finishes_with.false,
      told.settings ∙ inv.2,
      told.same.0 ∙ inv.3,
      told.same.1 ∙ inv.4,
      c.pop_at.ensures.same_queues ∙ inv.5,
      told.nodes,
      λ node. told.keeps node ∙ inv.7 node,
      λ first before earlier at held apart holds.
          let h = inv.8 first before earlier at held apart holds in
          let item = c.in-Some.item in
          let t = tells_as T g.RateLimits.Limiter.asks first before c.loop.turns.number c.args.turns.now.number inv.3 c.turn.new.self.shard c.turn.new.self.desk.sender.items c.turn.new.self.desk.tally c.turn.new.self.limiter item (journal_of (earlier ++ h.0)) (told.told first before (journal_of (earlier ++ h.0)) h.6.3) in
          let more = holding_taking (T c.args.turns.now.number) g.RateLimits.Limiter.asks first g.QueueRoom.Room.capacity (settings c.args.turns.now.shard) before c.args.place at item held c.loop.receiver.ends c.pop_at.new.self.ends c.loop.turns.shard c.turn.new.self.shard c.loop.turns.desk.sender.items c.turn.new.self.desk.sender.items c.loop.turns.desk.tally c.turn.new.self.desk.tally c.loop.turns.limiter c.turn.new.self.limiter (earlier ++ h.0)
          apart (told.settings ∙ inv.2) (sym c.is_taken.ensures ∙ c.if-not-is_taken.false) c.in-Some.ensures.first h.6 t in (
            h.0 ++ (c.args.place, t.0.taken) ∷ [],
            h.1 ++ Popped c.args.place ∷ [],
            of_one c.args.place h.0 t.0.taken h.2,
            at_more c.args.place h.1 h.3,
            called_more c.args.receiver.now.calls c.loop.receiver.calls c.pop_at.new.self.calls h.0 h.1 c.args.place t.0.taken h.4 c.in-Some.ensures.popped,
            one_longer c.args.place c.loop.counter h.0 t.0.taken h.5,
            subst (λ l. HoldsBack (T c.args.turns.now.number) g.RateLimits.Limiter.asks first (settings c.args.turns.now.shard) c.pop_at.new.self.ends before c.turn.new.self.shard c.turn.new.self.desk.sender.items c.turn.new.self.desk.tally c.turn.new.self.limiter l at held) (append_assoc earlier h.0 ((c.args.place, t.0.taken) ∷ [])) more,
          ),
    )

pub returns-clause-takes : goal.returns-clause-takes
returns-clause-takes g c = λ first before earlier at held apart holds.
    let h = c.loop.invariant.8 first before earlier at held apart holds in
    (h.0, h.1, h.2, h.3, (h.4, inr (omega (arith, h.5, c.capacity-end.ensures, c.loop-test.false)), h.6))
