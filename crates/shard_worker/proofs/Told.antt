-- What there is to tell, once it is told.
-- For the contracts of `Turns::turn` and `Turns::decide_due`.
use Rattle.std.proofs.Common.{◌≡◌, ℕ, zero, suc, ◌+◌, Bool, true, false, cond, nat_le, List, [], ◌∷◌, ◌++◌, map, length, take, drop, Option, Some, refl, sym, ap, ◌∙◌, subst, inl, inr}
use Rattle.std.specs.Prelude.{◌⊎◌, IfSome}
use Rattle.std.proofs.lemmas.Bool.{and_parts}
use Rattle.otlp_types.specs.declared.arrival.Arrival.{Arrival}
use Rattle.span_ids.specs.declared.outcome.Verdict.{Verdict}
use Rattle.span_ids.specs.declared.outcome.Verdict.TheVariants.{Sampled, NotSampled}
use Rattle.decision_line.specs.declared.decision.DueCause.{DueCause}
use Rattle.decision_line.specs.declared.decision.DueCause.TheVariants.{Wait, RootWait, Size, Close}
use Rattle.decision_line.specs.declared.decision.DecidedTrace.{DecidedTrace}
use Rattle.decision_line.specs.declared.decision.EvictedTrace.{EvictedTrace}
use Rattle.decision_line.specs.declared.decision.LateSpans.{LateSpans}
use Rattle.decision_line.specs.declared.decision.Said.{Said}
use Rattle.policy_eval.specs.declared.answer.Answer.{Answer}
use Rattle.policy_eval.specs.Given.{verdict_given, decider_given, told_given, are_answered}
use Rattle.journal_theory.specs.Journal.{Entry, Settings, Journal, Opening, clock, due_now, have_ended, is_oversized, policies_for, spans_since, are_each_answered}
use Rattle.journal_theory.specs.Standing.{Standing, mark}
use Rattle.journal_theory.proofs.Answering.{no_more, ended-same, mark-same, due-same}
use Rattle.shard_core.specs.Held.{Held, settings, StandsFor}
use Rattle.shard_core.specs.Taking.{Releases, DecidesFirst, TellsDecider, TellsAnswers}
use Rattle.shard_core.specs.Telling.{cause_at, due_told, next_told, said_by, told_decision}
use Rattle.shard_core.specs.declared.answer.Decided.{Decided}
use Rattle.shard_core.specs.declared.answer.Decided.TheVariants.{Release, Nothing, Dropped as NotReleased}
use Rattle.shard_core.specs.declared.answer.DueTrace.{DueTrace}
use Rattle.shard_worker.specs.News.{News, decided, IsTold, AreTold, decision_news, decisions_news}
use Rattle.shard_worker.specs.Turns.{TellsDecisions}
use Rattle.shard_worker.proofs.Giving.{given_after}

pub told_both : (told : News → Type 0) (a b : List News) → AreTold told a → AreTold told b → AreTold told (a ++ b)
told_both told [] b x y = y
told_both told (n ∷ a) b x y = (x.0, told_both told a b x.1 y)

-- no decision was given answers
pub told_unanswered : (told : News → Type 0) (s : Settings) (past : Journal) (os : List Opening) → AreTold told (decisions_news s past os [])
told_unanswered told s past [] = tt
told_unanswered told s past (o ∷ os) = tt

-- ---- an entry with other answers

module _ (s : Settings) (e : Entry) (before : Journal) (more : List (List Bool)) where
  abbrev other : Journal
  other = record e { answers = more } ∷ before

  cause_same : (o : Opening) → cause_at s other o ≡ cause_at s (e ∷ before) o
  cause_same o =
      let C : Bool → ℕ → DueCause = λ ended m. cond (is_oversized s (e ∷ before) o) Size (cond ended Close (cond (nat_le (o.moment + s.decision_wait) m) Wait RootWait)) in
      ap (λ b. C b (mark other)) (ended-same s e before more s.senders) ∙ ap (C (have_ended (e ∷ before) s.senders)) (mark-same s e before more e.item)

  one_same : (o : Opening) (answers : List Bool) → decision_news s other o answers ≡ decision_news s (e ∷ before) o answers
  one_same o answers =
      let spans = spans_since (e ∷ before) o in
      let policies = policies_for s spans in
      ap (λ (x : DueCause). decided (record { trace = o.trace; moment = clock (e ∷ before); opened = o.moment; spans = length spans; verdict = verdict_given policies answers spans; cause = x; decider = decider_given policies answers spans }) (map said_by (told_given policies answers spans))) (cause_same o)

  each_same : (os : List Opening) (given : List (List Bool)) → decisions_news s other os given ≡ decisions_news s (e ∷ before) os given
  each_same [] given = refl
  each_same (o ∷ os) [] = refl
  each_same (o ∷ os) (a ∷ given) = ap (λ (n : News). n ∷ decisions_news s other os given) (one_same o a) ∙ ap (λ (l : List News). decision_news s (e ∷ before) o a ∷ l) (each_same os given)

  pub decisions_same : (given : List (List Bool)) → decisions_news s other (due_now s other) given ≡ decisions_news s (e ∷ before) (due_now s (e ∷ before)) given
  decisions_same given = ap (λ os. decisions_news s other os given) (due-same s e before more) ∙ each_same (due_now s (e ∷ before)) given

-- ---- one more decision

module _ (told : News → Type 0) (s : Settings) (past : Journal) where
  told-next : (k : ℕ) (os : List Opening) (given : List (List Bool)) (answers : List Bool) (o : Opening) (rest : List Opening) → drop k os ≡ o ∷ rest →
      are_each_answered s past (take k os) given ≡ true → AreTold told (decisions_news s past os given) → told (decision_news s past o answers) →
      AreTold told (decisions_news s past os (given ++ answers ∷ []))
  told-next k [] given answers o rest e h a q = absurd (no_more k o rest e)
  told-next zero (p ∷ os) [] answers o rest e h a q =
      let same : o ≡ p = cc in
      (subst (λ (r : Opening). told (decision_news s past r answers)) same q, told_unanswered told s past os)
  told-next zero (p ∷ os) (g ∷ given) answers o rest e h a q = absurd (let x : false ≡ true = h in cc)
  told-next (suc k) (p ∷ os) [] answers o rest e h a q = absurd (let x : false ≡ true = h in cc)
  told-next (suc k) (p ∷ os) (g ∷ given) answers o rest e h a q =
      (a.0, told-next k os given answers o rest e (and_parts (are_answered (policies_for s (spans_since past p)) g (spans_since past p)) (are_each_answered s past (take k os) given) h).1 a.1 q)

-- what is told of a decision has its verdict
decided-is : (answer : Decided) (decider : Option ℕ) (d : DueTrace) (spans : List Arrival) (verdict : Verdict) → Releases answer spans verdict
    → told_decision answer decider d ≡ Some (record { trace = d.trace; moment = d.moment; opened = d.opened; spans = d.spans; verdict = verdict; cause = d.cause; decider = decider })
decided-is Nothing decider d spans verdict r = absurd r
decided-is (Release v) decider d spans Sampled r = refl
decided-is (Release v) decider d spans NotSampled r = absurd r
decided-is (NotReleased n) decider d spans Sampled r = absurd r
decided-is (NotReleased n) decider d spans NotSampled r = refl

module _ {W : Type 0} (unheard : W → ℕ → ℕ → Type 0) (told_decided : W → DecidedTrace → List Said → Type 0) (told_evicted : W → EvictedTrace → Type 0) (told_late : W → LateSpans → Type 0) (w : W) (shard : ℕ) where
  abbrev pub T : News → Type 0
  T = IsTold unheard told_decided told_evicted told_late w shard

  -- what was told of this answer, where this trace was due
  abbrev pub Tells : Decided → (decider : Option ℕ) → (said : List Answer) → Option DueTrace → Type 0
  Tells answer decider said due = IfSome due (λ (d : DueTrace). IfSome (told_decision answer decider d) (λ (t : DecidedTrace). told_decided w t (map said_by said)))

  -- the trace that was to be decided next was known, or the watcher doesn't hear at this moment
  abbrev pub Hears : Held → Option DueTrace → Type 0
  Hears h due = unheard w shard h.standing.clock ⊎ ((past : Journal) (dealt : ℕ) → StandsFor h past dealt → due ≡ next_told (settings h) past (drop dealt (due_now (settings h) past)))

  told_known : (s : Settings) (past : Journal) (o : Opening) (answers : List Bool) (answer : Decided) (decider : Option ℕ) (said : List Answer) (due : Option DueTrace) → let spans = spans_since past o in let policies = policies_for s spans in
      due ≡ Some (due_told s past o) → Releases answer spans (verdict_given policies answers spans) → decider ≡ decider_given policies answers spans → said ≡ told_given policies answers spans
      → Tells answer decider said due → T (decision_news s past o answers)
  told_known s past o answers answer decider said due is r d a t =
      let spans = spans_since past o in
      let policies = policies_for s spans in
      let verdict = verdict_given policies answers spans in
      let at : Option ℕ → DecidedTrace = λ y. record { trace = o.trace; moment = clock past; opened = o.moment; spans = length spans; verdict = verdict; cause = cause_at s past o; decider = y } in
      let known = subst (λ (x : Option DueTrace). Tells answer decider said x) is t in
      let it : told_decided w (at decider) (map said_by said) = subst (λ (x : Option DecidedTrace). IfSome x (λ (y : DecidedTrace). told_decided w y (map said_by said))) (decided-is answer decider (due_told s past o) spans verdict r) known in
      inl (subst (λ (y : Option ℕ). told_decided w (at y) (map said_by (told_given policies answers spans))) d (subst (λ (z : List Answer). told_decided w (at decider) (map said_by z)) a it))

  module _ {L : Type 0} (asks : L → ℕ → ℕ → ℕ → Bool → L → Type 0) (before after : L) (old new : Held) (decider : Option ℕ) (said : List Answer) (answers : List Bool) (due : Option DueTrace) (past : Journal) (k : ℕ) (stands : StandsFor old past k) (hears : Hears old due) where
    abbrev s : Settings
    s = settings old

    told_first : (answer : Decided) (o : Opening) (later : List Opening) → drop k (due_now s past) ≡ o ∷ later → Releases answer (spans_since past o) (verdict_given (policies_for s (spans_since past o)) answers (spans_since past o))
        → decider ≡ decider_given (policies_for s (spans_since past o)) answers (spans_since past o) → said ≡ told_given (policies_for s (spans_since past o)) answers (spans_since past o) → Tells answer decider said due → T (decision_news s past o answers)
    told_first answer o later is r d a t = by hears
      where
        by : Hears old due → T (decision_news s past o answers)
        by (inl deaf) = inr (subst (λ (c : ℕ). unheard w shard c) (ap (λ (st : Standing). st.clock) stands.1) deaf)
        by (inr known) = told_known s past o answers answer decider said due (known past k stands ∙ ap (next_told s past) is) r d a t

    -- what there is to tell of the decisions, with this one more
    pub told_deciding : (answer : Decided) (given : List (List Bool)) (os : List Opening) → drop k (due_now s past) ≡ os → are_each_answered s past (take k (due_now s past)) given ≡ true
        → DecidesFirst asks old new answer before after answers past os → TellsDecider s decider answers past os → TellsAnswers s said answers past os → Tells answer decider said due
        → TellsDecisions T s past given (given_after answer given answers)
    told_deciding Nothing given os is h f d a t = λ x. x
    told_deciding (Release v) given [] is h f d a t = absurd (let x : Release v ≡ Nothing = f.0 in cc)
    told_deciding (Release v) given (o ∷ later) is h f d a t = λ x. told-next T s past k (due_now s past) given answers o later is h x (told_first (Release v) o later is f.0 d a t)
    told_deciding (NotReleased n) given [] is h f d a t = absurd (let x : NotReleased n ≡ Nothing = f.0 in cc)
    told_deciding (NotReleased n) given (o ∷ later) is h f d a t = λ x. told-next T s past k (due_now s past) given answers o later is h x (told_first (NotReleased n) o later is f.0 d a t)

-- the same, by the entry with the answers that it had at first
pub told_since : (told : News → Type 0) (s : Settings) (e : Entry) (past : Journal) (given more : List (List Bool)) → TellsDecisions told s (record e { answers = given } ∷ past) given more → TellsDecisions told s (e ∷ past) given more
told_since told s e past given more f x = subst (λ l. AreTold told l) (decisions_same s e past given more) (f (subst (λ l. AreTold told l) (sym (decisions_same s e past given given)) x))
