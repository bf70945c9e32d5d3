-- One item is taken, and then all that is due is decided.
-- For the clauses of `Turns::turn`.
use Rattle.std.proofs.Common.{◌≡◌, ◌∷◌, ℕ, true, Option, ap, ◌∙◌, refl, sym, subst}
use Rattle.span_ids.specs.declared.ids.TraceId.{TraceId}
use Rattle.journal_theory.specs.Journal.{Entry, Settings, clock, due_now}
use Rattle.journal_theory.specs.Standing.{Standing}
use Rattle.shard_core.specs.Held.{settings}
use Rattle.shard_core.specs.Taking.{answer_to, entry}
use Rattle.shard_core.specs.declared.answer.Taken.{Taken}
use Rattle.journal_theory.specs.Marked.{marks_apply}
use Rattle.shard_worker.specs.News.{IsTold, AreTold, answer_news, decisions_news, news_now, trace_of}
use Rattle.shard_worker.proofs.Nodes.{knows_kept}
use Rattle.shard_worker.proofs.Moves.{at_taken}
use Rattle.shard_worker.proofs.Giving.{answer_same}
use Rattle.shard_worker.proofs.Told.{decisions_same, told_both, told_unanswered}
use Rattle.shard_worker.proofs.turn.Turns.turn.Goals as goal

pub decide_due-requires : goal.decide_due-requires
decide_due-requires g c =
    let has = g.L.Limiter.has_node c.args.self.now.limiter in
    record { nodes = knows_kept has has c.args.self.now.shard.policies c.take-taken.new.self.policies (λ node. refl) c.take-taken.ensures.policies c.requires.nodes }

pub returns-clause-told : goal.returns-clause-told
returns-clause-told g c = λ first before past h.
    let answer = c.take-taken.result in
    let did = c.take-taken.ensures in
    let settled = c.settle_taken-finished.ensures in
    let stands = did.stands past h.dealt h.at.stands in
    let at = at_taken g.L.Limiter.asks first c.args.self.now.limiter before c.args.self.now.shard c.take-taken.new.self c.args.self.now.desk.sender.items c.settle_taken-finished.new.desk.sender.items c.args.self.now.desk.tally c.settle_taken-finished.new.desk.tally past h.dealt c.args.item answer h.at
    stands did.settings (did.released past h.dealt h.at.stands) (λ reason. did.dropped past h.dealt reason h.at.stands) (did.answer past h.dealt h.at.stands) (ap (λ s. s.items) settled.takes.0) settled.takes.1 in
    let marked = entry c.args.item answer in
    let done = c.decide_due.ensures.done first before marked past 0 at in
    let taken : Entry = record marked { answers = done.0 } in
    let T = IsTold g.Observer.Watcher.unheard g.Observer.Watcher.told_decided g.Observer.Watcher.told_evicted g.Observer.Watcher.told_late c.args.observer.now c.args.self.now.number in
    let s = settings c.args.self.now.shard in
    let N = λ (t : Option TraceId) (m : ℕ) (a : Taken). AreTold T (answer_news t m a) in
    let now : c.clock-now.result ≡ clock (taken ∷ past) = c.clock-now.ensures ∙ ap (λ (st : Standing). st.clock) stands.1 in
    let is : answer ≡ answer_to s taken past = did.answer past h.dealt h.at.stands ∙ sym (answer_same s marked past done.0) in
    let item = subst (λ (t : Option TraceId). N t (clock (taken ∷ past)) (answer_to s taken past)) c.trace_of-trace.ensures
    (subst (λ (m : ℕ). N c.trace_of-trace.result m (answer_to s taken past)) now
    (subst (λ (a : Taken). N c.trace_of-trace.result c.clock-now.result a) is c.tell_fates.ensures)) in
    let decisions = subst (λ l. AreTold T l) (sym (decisions_same s marked past done.0 done.0))
    (subst (λ (z : Settings). AreTold T (decisions_news z (marked ∷ past) (due_now z (marked ∷ past)) done.0)) did.settings (done.2 (told_unanswered T (settings c.take-taken.new.self) (marked ∷ past) (due_now (settings c.take-taken.new.self) (marked ∷ past))))) in (
      record {
        taken = taken;
        item_is = refl;
        marked = subst (λ z. marks_apply z marked past ≡ true) (sym (c.decide_due.ensures.settings ∙ did.settings)) (did.marks past h.dealt h.at.stands);
        done = done.1;
      },
      subst (λ (z : Settings). AreTold T (news_now z (taken ∷ past))) (sym (c.decide_due.ensures.settings ∙ did.settings))
          (told_both T (answer_news (trace_of c.args.item) (clock (taken ∷ past)) (answer_to s taken past)) (decisions_news s (taken ∷ past) (due_now s (taken ∷ past)) done.0) item decisions),
    )

pub returns-clause-takes : goal.returns-clause-takes
returns-clause-takes g c = λ first before past h. (returns-clause-told g c first before past h).0
