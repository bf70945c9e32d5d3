-- What is popped is taken in rounds.
-- For the clauses of `take_all`.
use Rattle.std.proofs.Common.{◌≡◌, ◌∙◌, ◌∷◌, ◌++◌, ℕ, [], length, refl, sym, ap, subst, append-nil, append_assoc, arith}
use Rattle.lane_queue.specs.declared.calls.Call.TheVariants.{Popped}
use Rattle.lane_queue.proofs.Merging.{merge_none}
use Rattle.journal_theory.specs.Journal.{Settings}
use Rattle.shard_core.specs.Held.{settings}
use Rattle.shard_worker.specs.News.{IsTold}
use Rattle.shard_worker.specs.Work.{alone, taken_by, calls_by, calls_in, IsRound, AreRounds}
use Rattle.shard_worker.proofs.Journals.{kept_none, kept_skipping, unmarked}
use Rattle.shard_worker.proofs.HeldBack.{held_as, taken_as, no_tick, same_count, popping, calls_more}
use Rattle.shard_worker.proofs.worker.take_all.Goals as goal

pub loop-init : goal.loop-init
loop-init g c =
    let T = λ (n : ℕ). IsTold g.Observer.Watcher.unheard g.Observer.Watcher.told_decided g.Observer.Watcher.told_evicted g.Observer.Watcher.told_late c.args.observer.now n in
    let none = kept_none (T c.args.turns.now.number) g.RateLimits.Limiter.asks c.args.turns.now.limiter (settings c.args.turns.now.shard) c.args.receiver.now.ends c.args.turns.now.shard c.args.turns.now.desk.sender.items c.args.turns.now.desk.tally (merge_none c.args.receiver.now.ends c.requires.new_queues.0) c.requires.new_shard c.requires.new_queues.1 in
    (c.requires.nothing_due, c.requires.running, refl, refl, refl, refl, c.requires.nodes, λ node. refl, ([], tt, none, sym (append-nil c.args.receiver.now.calls)))

pub loop-preserved-then-not-is_taken : goal.loop-preserved-then-not-is_taken
loop-preserved-then-not-is_taken g c =
    let T = λ (n : ℕ). IsTold g.Observer.Watcher.unheard g.Observer.Watcher.told_decided g.Observer.Watcher.told_evicted g.Observer.Watcher.told_late c.args.observer.now n in
    let inv = c.loop.invariant in
    let h = inv.8 in
    let popped = c.in-Some-pop.ensures.first in
    let item = c.in-Some-pop.item in
    let none = sym c.is_taken.ensures ∙ c.if-not-is_taken.true in
    let kept = kept_skipping (T c.args.turns.now.number) g.RateLimits.Limiter.asks c.args.turns.now.limiter _ popped.0 item (settings c.args.turns.now.shard) c.loop.receiver.ends c.pop.new.self.ends c.args.turns.now.desk.tally c.loop.turns.shard c.loop.turns.desk.sender.items c.loop.turns.desk.tally c.loop.turns.limiter (taken_by h.0) none popped.1.takes h.2 in
    (inv.0, inv.1, inv.2, inv.3, inv.4, c.pop.ensures.same_queues ∙ inv.5, inv.6, inv.7, (alone (popped.0, unmarked item) ∷ h.0, (no_tick item none, h.1), kept, calls_more c.args.receiver.now.calls c.loop.receiver.calls c.pop.new.self.calls (calls_by h.0) (Popped popped.0 ∷ []) h.3 popped.1.called))

pub take_item-requires : goal.take_item-requires
take_item-requires g c = record {
  popped = omega (arith, c.in-Some-pop.ensures.first.1.next);
  nothing_due = c.loop.invariant.0;
  running = c.loop.invariant.1;
  ids = sym c.is_taken.ensures ∙ c.if-not-is_taken.false;
  nodes = c.loop.invariant.6;
}

pub returns-then-take_item-clause-takes : goal.returns-then-take_item-clause-takes
returns-then-take_item-clause-takes g c =
    let T = λ (n : ℕ). IsTold g.Observer.Watcher.unheard g.Observer.Watcher.told_decided g.Observer.Watcher.told_evicted g.Observer.Watcher.told_late c.args.observer.now n in
    let inv = c.loop.invariant in
    let h = inv.8 in
    let A = g.RateLimits.Limiter.asks in
    let n = g.QueueRoom.Room.capacity in
    let s = settings c.args.turns.now.shard in
    let first = c.args.turns.now.limiter in
    let before = c.args.turns.now.desk.tally in
    let popped = c.in-Some-pop.ensures.first in
    let item = c.in-Some-pop.item in
    let ends = c.pop.new.self.ends in
    let waits = popping (T c.args.turns.now.number) A first n s before popped.0 item c.loop.receiver.ends ends c.loop.turns.shard c.loop.turns.desk.sender.items c.loop.turns.desk.tally c.loop.turns.limiter (taken_by h.0) popped.1.takes h.2 in
    let past = c.args.receiver.now.calls ++ calls_by h.0 in
    let r = c.take_item.ensures.takes first before (taken_by h.0) past popped.0 popped.1.next (popped.1.called ∙ ap (λ l. l ++ Popped popped.0 ∷ []) h.3) (held_as T A first before c.args.turns.now.number c.loop.turns.number (sym inv.3) s (settings c.loop.turns.shard) (sym inv.2) ends c.loop.turns.shard c.loop.turns.desk.sender.items c.loop.turns.desk.tally c.loop.turns.limiter (taken_by h.0) popped.0 item waits) in
    let round = subst (λ (m : ℕ). IsRound n m s.senders (taken_by h.0) r.0) (same_count ends c.args.receiver.now.ends (c.pop.ensures.same_queues ∙ inv.5)) (subst (λ (z : Settings). IsRound n (length ends) z.senders (taken_by h.0) r.0) inv.2 r.1) in
    let taken = taken_as T A first before c.loop.turns.number c.args.turns.now.number inv.3 (settings c.loop.turns.shard) s inv.2 c.take_item.new.receiver.ends c.take_item.new.turns.shard c.take_item.new.turns.desk.sender.items c.take_item.new.turns.desk.tally c.take_item.new.turns.limiter (taken_by (r.0 ∷ h.0)) r.3 in
    let calls = r.2 ∙ append_assoc c.args.receiver.now.calls (calls_by h.0) (calls_in r.0) in
    let same : length c.args.receiver.now.ends ≡ length c.take_item.new.receiver.ends = same_count c.args.receiver.now.ends c.take_item.new.receiver.ends (sym (c.take_item.ensures.same_queues ∙ c.pop.ensures.same_queues ∙ inv.5)) in (
      taken_by (r.0 ∷ h.0),
      record { rounds = r.0 ∷ h.0; taken = refl; before = c.args.receiver.now.calls; called = calls; each = subst (λ (m : ℕ). AreRounds n m s.senders (r.0 ∷ h.0)) same (round, h.1) },
      taken,
    )

pub loop-preserved : goal.loop-preserved
loop-preserved g c =
    let T = λ (n : ℕ). IsTold g.Observer.Watcher.unheard g.Observer.Watcher.told_decided g.Observer.Watcher.told_evicted g.Observer.Watcher.told_late c.args.observer.now n in
    let inv = c.loop.invariant in
    let h = inv.8 in
    let A = g.RateLimits.Limiter.asks in
    let n = g.QueueRoom.Room.capacity in
    let s = settings c.args.turns.now.shard in
    let first = c.args.turns.now.limiter in
    let before = c.args.turns.now.desk.tally in
    let popped = c.in-Some-pop.ensures.first in
    let item = c.in-Some-pop.item in
    let ends = c.pop.new.self.ends in
    let waits = popping (T c.args.turns.now.number) A first n s before popped.0 item c.loop.receiver.ends ends c.loop.turns.shard c.loop.turns.desk.sender.items c.loop.turns.desk.tally c.loop.turns.limiter (taken_by h.0) popped.1.takes h.2 in
    let past = c.args.receiver.now.calls ++ calls_by h.0 in
    let r = c.take_item.ensures.takes first before (taken_by h.0) past popped.0 popped.1.next (popped.1.called ∙ ap (λ l. l ++ Popped popped.0 ∷ []) h.3) (held_as T A first before c.args.turns.now.number c.loop.turns.number (sym inv.3) s (settings c.loop.turns.shard) (sym inv.2) ends c.loop.turns.shard c.loop.turns.desk.sender.items c.loop.turns.desk.tally c.loop.turns.limiter (taken_by h.0) popped.0 item waits) in
    let round = subst (λ (m : ℕ). IsRound n m s.senders (taken_by h.0) r.0) (same_count ends c.args.receiver.now.ends (c.pop.ensures.same_queues ∙ inv.5)) (subst (λ (z : Settings). IsRound n (length ends) z.senders (taken_by h.0) r.0) inv.2 r.1) in
    let taken = taken_as T A first before c.loop.turns.number c.args.turns.now.number inv.3 (settings c.loop.turns.shard) s inv.2 c.take_item.new.receiver.ends c.take_item.new.turns.shard c.take_item.new.turns.desk.sender.items c.take_item.new.turns.desk.tally c.take_item.new.turns.limiter (taken_by (r.0 ∷ h.0)) r.3 in
    let told = c.take_item.ensures in
    (told.nothing_due, sym told.finished ∙ c.if-take_item.false, told.settings ∙ inv.2, told.same.0 ∙ inv.3, told.same.1 ∙ inv.4, told.same_queues ∙ c.pop.ensures.same_queues ∙ inv.5, told.nodes, λ node. told.keeps node ∙ inv.7 node, (r.0 ∷ h.0, (round, h.1), taken, r.2 ∙ append_assoc c.args.receiver.now.calls (calls_by h.0) (calls_in r.0)))
