-- What is due is decided, one after the other.
-- For the clauses of `Turns::decide_due`.
use Rattle.std.proofs.Common.{◌≡◌, ℕ, ◌∷◌, true, drop, refl, sym, ap, subst, ◌∙◌}
use Rattle.std.specs.List.{list_all}
use Rattle.policy_tree.specs.Tree.{limiters}
use Rattle.policy_tree.specs.Meaning.{meaning}
use Rattle.policy_eval.specs.Meaning.{knows}
use Rattle.journal_theory.specs.Journal.{Settings, Journal, due_now, IsAnswered}
use Rattle.journal_theory.specs.Fate.{effect, effect_dealt}
use Rattle.shard_core.specs.Held.{Held, StandsFor, settings}
use Rattle.shard_core.specs.Taking.{DecidesWithAnswers, dealt_after}
use Rattle.shard_worker.specs.News.{IsTold}
use Rattle.shard_worker.specs.Turns.{TellsDecisions}
use Rattle.shard_worker.proofs.Nodes.{knows_kept}
use Rattle.shard_worker.proofs.Told.{told_deciding, told_since}
use Rattle.shard_worker.proofs.Giving.{given_after}
use Rattle.shard_worker.proofs.Moves.{at_decided, done_decided}
use Rattle.shard_worker.proofs.turn.Turns.decide_due.Goals as goal

pub loop-init : goal.loop-init
loop-init g c = (refl, refl, refl, refl, c.requires.nodes, λ node. refl, λ first before e past dealt at. (dealt, e.answers, at, λ x. x))

pub returns-then-not-settle_decided : goal.returns-then-not-settle_decided
returns-then-not-settle_decided g c =
    let inv = c.loop.invariant in
    let told = c.decide_with_answers-decision.ensures in
    let did = c.decide_with_answers-decision.result in
    let settled = c.settle_decided.ensures in
    let none = c.if-not-settle_decided.ensures.some.0 in
    let A = g.L.Limiter.asks in
    let t = c.loop.self.limiter in
    let u = c.decide_with_answers-decision.new.limiter in
    let old = c.loop.self.shard in
    let new = c.decide_with_answers-decision.new.self in
    let same : c.next_told-due.new.shard ≡ old = c.next_told-due.ensures.same in
    let D = λ (x : Held). DecidesWithAnswers A x new did.decided did.decider did.answers.items t u in
    let decides = subst D same told.decides in
    let told_settings = told.settings ∙ ap settings same in
    let told_ends = told.ends ∙ ap (λ (x : Held). x.standing.ends) same in
    let told_policies = told.policies ∙ ap (λ (x : Held). x.policies) same in
    record {
      done = λ first before e past dealt at.
          let now = inv.6 first before e past dealt at in
          let P : Journal = record e { answers = now.1 } ∷ past in
          let here = at_decided A first t u before old new c.loop.self.desk.sender.items c.settle_decided.new.desk.sender.items c.loop.self.desk.tally c.settle_decided.new.desk.tally e past now.1 now.0 c.recorded-self.result did.decider did.answers.items did.decided now.2
          decides told_settings c.recorded-self.ensures (ap (λ x. x.items) settled.takes.0) settled.takes.1 in (
            now.1,
            done_decided A first u before old new c.settle_decided.new.desk.sender.items c.settle_decided.new.desk.tally e past now.1 decides.0 now.0 did.decided none told_settings
                (subst (λ (x : Held). StandsFor x P now.0 → effect_dealt (settings x) P now.0 ≡ effect (settings x) P) same (told.all_dealt none P now.0) now.2.stands)
                (subst (λ (x : Held). StandsFor x P now.0 → IsAnswered (settings x) P) same (told.answered none P now.0) now.2.stands) here,
            now.3,
          );
      nothing_due = told.nothing none;
      finished = ap (λ ends. list_all (λ b. b) ends) (told_ends ∙ inv.0);
      ends = told_ends ∙ inv.0;
      settings = told_settings ∙ inv.1;
      nodes = knows_kept (g.L.Limiter.has_node t) (g.L.Limiter.has_node u) old.policies new.policies told.keeps told_policies inv.4;
      keeps = λ node. told.keeps node ∙ inv.5 node;
      same = (inv.2, ap (λ x. x.queue) settled.takes.0 ∙ inv.3);
    }

pub decide_with_answers-decision-requires : goal.decide_with_answers-decision-requires
decide_with_answers-decision-requires g c =
    let same : c.next_told-due.new.shard ≡ c.loop.self.shard = c.next_told-due.ensures.same in
    record { nodes = subst (λ (x : Held). knows (g.L.Limiter.has_node c.loop.self.limiter) (limiters (meaning x.policies)) ≡ true) (sym same) c.loop.invariant.4 }

pub loop-preserved : goal.loop-preserved
loop-preserved g c =
    let inv = c.loop.invariant in
    let told = c.decide_with_answers-decision.ensures in
    let did = c.decide_with_answers-decision.result in
    let settled = c.settle_decided.ensures in
    let A = g.L.Limiter.asks in
    let t = c.loop.self.limiter in
    let u = c.decide_with_answers-decision.new.limiter in
    let old = c.loop.self.shard in
    let new = c.decide_with_answers-decision.new.self in
    let same : c.next_told-due.new.shard ≡ old = c.next_told-due.ensures.same in
    let D = λ (x : Held). DecidesWithAnswers A x new did.decided did.decider did.answers.items t u in
    let decides = subst D same told.decides in
    let told_settings = told.settings ∙ ap settings same in
    let told_ends = told.ends ∙ ap (λ (x : Held). x.standing.ends) same in
    let told_policies = told.policies ∙ ap (λ (x : Held). x.policies) same in
    let w = g.Observer.Watcher in
    let T = λ (n : ℕ). IsTold w.unheard w.told_decided w.told_evicted w.told_late c.args.observer.now n in (
      told_ends ∙ inv.0,
      told_settings ∙ inv.1,
      inv.2,
      ap (λ x. x.queue) settled.takes.0 ∙ inv.3,
      knows_kept (g.L.Limiter.has_node t) (g.L.Limiter.has_node u) old.policies new.policies told.keeps told_policies inv.4,
      λ node. told.keeps node ∙ inv.5 node,
      λ first before e past dealt at.
          let now = inv.6 first before e past dealt at in
          let P : Journal = record e { answers = now.1 } ∷ past in
          let m = decides.1 P now.0 now.2.stands in
          let given = given_after did.decided now.1 decides.0 in
          let step = told_since (T c.loop.self.number) (settings old) e past now.1 given
          (told_deciding w.unheard w.told_decided w.told_evicted w.told_late c.args.observer.now c.loop.self.number A t u old new did.decider did.answers.items decides.0 c.next_told-due.result P now.0 now.2.stands c.next_told-due.ensures.told
          did.decided now.1 (drop now.0 (due_now (settings old) P)) refl now.2.stands.2.0 m.0 m.3 m.4 c.tell_decided.ensures) in
          let more = subst (λ (n : ℕ). TellsDecisions (T n) (settings c.args.self.now.shard) (e ∷ past) now.1 given) inv.2 (subst (λ (z : Settings). TellsDecisions (T c.loop.self.number) z (e ∷ past) now.1 given) inv.1 step) in (
            dealt_after did.decided now.0,
            given_after did.decided now.1 decides.0,
            at_decided A first t u before old new c.loop.self.desk.sender.items c.settle_decided.new.desk.sender.items c.loop.self.desk.tally c.settle_decided.new.desk.tally e past now.1 now.0 c.recorded-self.result did.decider did.answers.items did.decided now.2
                decides told_settings c.recorded-self.ensures (ap (λ x. x.items) settled.takes.0) settled.takes.1,
            λ x. more (now.3 x),
          ),
    )
