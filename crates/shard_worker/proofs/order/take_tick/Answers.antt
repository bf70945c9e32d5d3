-- A tick is taken behind what waited in the other queues.
-- For the clauses of `take_tick`.
use Rattle.std.proofs.Common.{ℕ, ◌≡◌, ◌≢◌, ◌-◌, ◌∙◌, ◌++◌, ◌∷◌, [], true, refl, sym, ap, subst, append-nil, append_assoc, arith}
use Rattle.std.specs.List.{list_all}
use Rattle.otlp_types.specs.declared.arrival.Item.TheVariants.{Tick}
use Rattle.lane_queue.specs.declared.calls.Call.TheVariants.{Popped}
use Rattle.shard_core.specs.Held.{settings, is_finished}
use Rattle.shard_core.specs.Taking.{ends_after}
use Rattle.shard_worker.specs.Work.{behind, ending, journal_of}
use Rattle.shard_worker.specs.News.{IsTold}
use Rattle.shard_worker.specs.Turns.{HasTaken, HoldsBack}
use Rattle.shard_worker.proofs.Journals.{have_all_ended}
use Rattle.shard_worker.proofs.HeldBack.{held_as, tells_as, taking_both, releasing, regroup_two, called_none, called_more, called_both, called_since, own_none, own_none_last, behind_next, behind_own}
use Rattle.shard_worker.proofs.order.take_tick.Goals as goal

pub loop-other-init : goal.loop-other-init
loop-other-init g c =
    let T = λ (n : ℕ). IsTold g.Observer.Watcher.unheard g.Observer.Watcher.told_decided g.Observer.Watcher.told_evicted g.Observer.Watcher.told_late c.args.observer.now n in (
      c.requires.nothing_due,
      c.requires.running,
      refl,
      refl,
      refl,
      refl,
      c.requires.nodes,
      λ node. refl,
      λ first before earlier holds. (
        [],
        [],
        refl,
        called_none c.args.receiver.now.calls,
        λ k low apart. absurd (omega (arith, low)),
        subst (λ l. HoldsBack (T c.args.turns.now.number) g.RateLimits.Limiter.asks first (settings c.args.turns.now.shard) c.args.receiver.now.ends before c.args.turns.now.shard c.args.turns.now.desk.sender.items c.args.turns.now.desk.tally c.args.turns.now.limiter l (c.next_place-place.result - 1) (Tick c.args.moment)) (sym (append-nil earlier)) holds,
      ),
    )

pub loop-other-preserved-then-other-place : goal.loop-other-preserved-then-other-place
loop-other-preserved-then-other-place g c =
    let inv = c.loop-other.invariant in (
      inv.0,
      inv.1,
      inv.2,
      inv.3,
      inv.4,
      inv.5,
      inv.6,
      inv.7,
      λ first before earlier holds.
          let h = inv.8 first before earlier holds in
          (h.0, h.1, h.2, h.3, behind_own g.QueueRoom.Room.capacity c.loop-other.other (c.next_place-place.result - 1) earlier h.0 h.1 c.if-other-place.true h.4, h.5),
    )

pub loop-other-preserved : goal.loop-other-preserved
loop-other-preserved g c =
    let T = λ (n : ℕ). IsTold g.Observer.Watcher.unheard g.Observer.Watcher.told_decided g.Observer.Watcher.told_evicted g.Observer.Watcher.told_late c.args.observer.now n in
    let inv = c.loop-other.invariant in
    let told = c.in_default.ensures in
    let A = g.RateLimits.Limiter.asks in
    let s = settings c.args.turns.now.shard in
    let place = c.next_place-place.result - 1 in (
      told.nothing_due,
      told.running,
      told.settings ∙ inv.2,
      told.same.0 ∙ inv.3,
      told.same.1 ∙ inv.4,
      told.same_queues ∙ inv.5,
      told.nodes,
      λ node. told.keeps node ∙ inv.7 node,
      λ first before earlier holds.
          let h = inv.8 first before earlier holds in
          let d = told.takes first before (earlier ++ h.0) place (Tick c.args.moment) (λ e. c.if-other-place.false (sym e))
          (held_as T A first before c.args.turns.now.number c.loop-other.turns.number (sym inv.3) s (settings c.loop-other.turns.shard) (sym inv.2) c.loop-other.receiver.ends c.loop-other.turns.shard c.loop-other.turns.desk.sender.items c.loop-other.turns.desk.tally c.loop-other.turns.limiter (earlier ++ h.0) place (Tick c.args.moment) h.5) in (
            h.0 ++ d.0,
            h.1 ++ d.1,
            own_none place c.loop-other.other h.0 d.0 (λ e. c.if-other-place.false (sym e)) d.2 h.2,
            called_both c.args.receiver.now.calls c.loop-other.receiver.calls c.drain.new.receiver.calls h.0 d.0 h.1 d.1 h.3 d.4.0,
            behind_next g.QueueRoom.Room.capacity c.loop-other.other place earlier h.0 d.0 h.1 d.1 d.2 d.3 h.4 d.4.1,
            subst (λ l. HoldsBack (T c.args.turns.now.number) A first (settings c.args.turns.now.shard) c.drain.new.receiver.ends before c.drain.new.turns.shard c.drain.new.turns.desk.sender.items c.drain.new.turns.desk.tally c.drain.new.turns.limiter l place (Tick c.args.moment)) (append_assoc earlier h.0 d.0)
                (held_as T A first before c.loop-other.turns.number c.args.turns.now.number inv.3 (settings c.loop-other.turns.shard) s inv.2 c.drain.new.receiver.ends c.drain.new.turns.shard c.drain.new.turns.desk.sender.items c.drain.new.turns.desk.tally c.drain.new.turns.limiter ((earlier ++ h.0) ++ d.0) place (Tick c.args.moment) d.4.2),
          ),
    )

pub returns-in-Some-clause-takes : goal.returns-in-Some-clause-takes
returns-in-Some-clause-takes g c = λ first before earlier past at next called holds.
    let T = λ (n : ℕ). IsTold g.Observer.Watcher.unheard g.Observer.Watcher.told_decided g.Observer.Watcher.told_evicted g.Observer.Watcher.told_late c.args.observer.now n in
    let inv = c.loop-other.invariant in
    let told = c.in-Some.ensures in
    let A = g.RateLimits.Limiter.asks in
    let n = g.QueueRoom.Room.capacity in
    let s = settings c.args.turns.now.shard in
    let place = c.next_place-place.result - 1 in
    let same : at ≡ place = omega (arith, next, c.next_place-place.ensures) in
    let h = inv.8 first before earlier (subst (λ p. HoldsBack (T c.args.turns.now.number) A first s c.args.receiver.now.ends before c.args.turns.now.shard c.args.turns.now.desk.sender.items c.args.turns.now.desk.tally c.args.turns.now.limiter earlier p (Tick c.args.moment)) same holds) in
    let d = told.takes first before (earlier ++ h.0) place (Tick c.args.moment) (λ e. c.if-other-place.false (sym e))
    (held_as T A first before c.args.turns.now.number c.loop-other.turns.number (sym inv.3) s (settings c.loop-other.turns.shard) (sym inv.2) c.loop-other.receiver.ends c.loop-other.turns.shard c.loop-other.turns.desk.sender.items c.loop-other.turns.desk.tally c.loop-other.turns.limiter (earlier ++ h.0) place (Tick c.args.moment) h.5) in
    let popped = (earlier ++ h.0) ++ d.0 in
    let ends = d.4.0 in
    let waits = held_as T A first before c.loop-other.turns.number c.args.turns.now.number inv.3 (settings c.loop-other.turns.shard) s inv.2 ends c.drain.new.turns.shard c.drain.new.turns.desk.sender.items c.drain.new.turns.desk.tally c.drain.new.turns.limiter popped place (Tick c.args.moment) d.4.2 in
    let numbered : c.drain.new.turns.number ≡ c.args.turns.now.number = told.same.0 ∙ inv.3 in
    let is : settings c.turn.new.self.shard ≡ s = c.turn.ensures.settings ∙ told.settings ∙ inv.2 in
    let is' : settings c.turn-in-Some.new.self.shard ≡ s = c.turn-in-Some.ensures.settings ∙ is in
    let tick = c.turn.new.self in
    let final = c.turn-in-Some.new.self in
    let r = taking_both (T c.args.turns.now.number) A first n s before place c.loop-other.other (Tick c.args.moment) c.in-Some.last ends c.drain.new.receiver.ends c.drain.new.turns.shard tick.shard final.shard c.drain.new.turns.desk.sender.items tick.desk.sender.items final.desk.sender.items c.drain.new.turns.desk.tally tick.desk.tally final.desk.tally c.drain.new.turns.limiter tick.limiter final.limiter popped is is' refl told.last.0 d.4.1 waits
    (λ past h. tells_as T A first before c.drain.new.turns.number c.args.turns.now.number numbered tick.shard tick.desk.sender.items tick.desk.tally tick.limiter (Tick c.args.moment) past (c.turn.ensures.told first before past h))
    (λ past h. tells_as T A first before tick.number c.args.turns.now.number (c.turn.ensures.same.0 ∙ numbered) final.shard final.desk.sender.items final.desk.tally final.limiter c.in-Some.last past (c.turn-in-Some.ensures.told first before past h)) in
    let all = regroup_two earlier h.0 d.0 (place, r.0) (c.loop-other.other, r.1) in
    let done = subst (λ l. HasTaken (T c.args.turns.now.number) A first s c.drain.new.receiver.ends before final.shard final.desk.sender.items final.desk.tally final.limiter l) all r.2 in
    let apart : place ≢ c.loop-other.other = λ e. c.if-other-place.false (sym e) in
    let since = called_more c.args.receiver.now.calls d.4.3 c.drain.new.receiver.calls (h.0 ++ d.0) (h.1 ++ d.1) c.loop-other.other r.1 (called_both c.args.receiver.now.calls c.loop-other.receiver.calls d.4.3 h.0 d.0 h.1 d.1 h.3 d.4.4) d.4.5 in
    let finished : is_finished c.turn-in-Some.new.self.shard ≡ true =
    ap (λ e. list_all (λ b. b) e) (c.turn-in-Some.ensures.ends ∙ ap (λ e. ends_after c.in-Some.last e) c.turn.ensures.ends) ∙ told.last.1 in (
      ending (h.0 ++ d.0) (place, r.0) (c.loop-other.other, r.1) ((h.1 ++ d.1) ++ Popped c.loop-other.other ∷ []),
      (
        (own_none_last place c.loop-other.other (h.0 ++ d.0) r.1 apart (own_none place c.loop-other.other h.0 d.0 apart d.2 h.2), since.1),
        have_all_ended s c.turn-in-Some.new.self.shard (journal_of (earlier ++ ((h.0 ++ d.0) ++ (place, r.0) ∷ (c.loop-other.other, r.1) ∷ []))) done.3.dealt is' done.3.at.stands finished,
      ),
      called_since past c.args.receiver.now.calls c.drain.new.receiver.calls at place ((h.0 ++ d.0) ++ (c.loop-other.other, r.1) ∷ []) ((h.1 ++ d.1) ++ Popped c.loop-other.other ∷ []) same called since,
      done,
    )

pub returns-clause-takes : goal.returns-clause-takes
returns-clause-takes g c = λ first before earlier past at next called holds.
    let T = λ (n : ℕ). IsTold g.Observer.Watcher.unheard g.Observer.Watcher.told_decided g.Observer.Watcher.told_evicted g.Observer.Watcher.told_late c.args.observer.now n in
    let inv = c.loop-other.invariant in
    let A = g.RateLimits.Limiter.asks in
    let n = g.QueueRoom.Room.capacity in
    let s = settings c.args.turns.now.shard in
    let place = c.next_place-place.result - 1 in
    let same : at ≡ place = omega (arith, next, c.next_place-place.ensures) in
    let h = inv.8 first before earlier (subst (λ p. HoldsBack (T c.args.turns.now.number) A first s c.args.receiver.now.ends before c.args.turns.now.shard c.args.turns.now.desk.sender.items c.args.turns.now.desk.tally c.args.turns.now.limiter earlier p (Tick c.args.moment)) same holds) in
    let t = tells_as T A first before c.loop-other.turns.number c.args.turns.now.number inv.3 c.turn-2.new.self.shard c.turn-2.new.self.desk.sender.items c.turn-2.new.self.desk.tally c.turn-2.new.self.limiter (Tick c.args.moment) (journal_of (earlier ++ h.0)) (c.turn-2.ensures.told first before (journal_of (earlier ++ h.0)) h.5.3) in
    let taken = releasing (T c.args.turns.now.number) A first n s before place (Tick c.args.moment) c.loop-other.receiver.ends c.loop-other.turns.shard c.turn-2.new.self.shard c.loop-other.turns.desk.sender.items c.turn-2.new.self.desk.sender.items c.loop-other.turns.desk.tally c.turn-2.new.self.desk.tally c.loop-other.turns.limiter c.turn-2.new.self.limiter (earlier ++ h.0) (c.turn-2.ensures.settings ∙ inv.2) refl h.5 t in (
      behind h.0 (place, t.0.taken) h.1,
      ((h.2, h.3.1), λ k within apart. h.4 k (omega (arith, within, c.count-other-end.ensures, c.loop-other-test.false)) apart),
      called_since past c.args.receiver.now.calls c.loop-other.receiver.calls at place h.0 h.1 same called h.3,
      subst (λ l. HasTaken (T c.args.turns.now.number) A first s c.loop-other.receiver.ends before c.turn-2.new.self.shard c.turn-2.new.self.desk.sender.items c.turn-2.new.self.desk.tally c.turn-2.new.self.limiter l) (append_assoc earlier h.0 ((place, t.0.taken) ∷ [])) taken,
    )
