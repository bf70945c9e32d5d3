-- What a shard that stands for a journal stands for after it decided an episode, by what the code asks its buffer.
-- For the clause `decides` of `Shard::decide`, and for `has_due`.
use Rattle.std.proofs.Common.{◌≡◌, ℕ, zero, suc, ◌+◌, ◌/◌, ◌<◌, nat_le, Bool, true, false, ◌&&◌, ◌||◌, cond, List, [], ◌∷◌, map, reverse, length, take, drop, Option, Some, None, refl, sym, ap, subst, ◌∙◌, arith, add-one}
use Rattle.std.specs.List.{list_any, find, filter}
use Rattle.std.specs.Option.{is_none, is_some}
use Rattle.policy_tree.specs.Tree.{Policies, no_more}
use Rattle.policy_tree.specs.Meaning.{meaning}
use Rattle.policy_eval.specs.Amounts.{amount_at}
use Rattle.policy_eval.specs.declared.answer.Answer.{Answer}
use Rattle.policy_eval.specs.Given.{verdict_given, decider_given, told_given, asked_given, are_answered, Asked}
use Rattle.trace_buffer.specs.Buffer.{Episode, settled, settle_first, is_due_at, is_root_due, is_too_big, opened_by}
use Rattle.journal_theory.specs.Journal.{Entry, Journal, Opening, in_buffer, notes_dealt, due_now, clock, policies_for, spans_since, answered, IsAnsweredUpTo}
use Rattle.journal_theory.specs.Standing.{Standing, episode}
use Rattle.span_ids.specs.declared.outcome.Verdict.{Verdict}
use Rattle.otlp_types.specs.declared.arrival.Arrival.{Arrival}
use Rattle.shard_core.specs.Held.{Held, settings, StandsFor, has_due, is_finished, is_due_in, due_by}
use Rattle.journal_theory.specs.Deciding.{is_due_by}
use Rattle.shard_core.specs.Taking.{waiting, Releases, DecidesFirst, AddsDecision, TellsDecider, TellsAnswers, Decides, DecidesWithDecider, DecidesWithAnswers, journal_after, dealt_after}
use Rattle.shard_core.specs.Holding.{SettlesFirst, policies_on}
use Rattle.shard_core.specs.declared.answer.Decided.{Decided}
use Rattle.shard_core.specs.declared.answer.Decided.TheVariants.{Release, Nothing, Dropped as NotReleased}
use Rattle.journal_theory.proofs.Lists.{set_first}
use Rattle.journal_theory.proofs.ListFacts.{Each}
use Rattle.journal_theory.proofs.Due.{nothing_left}
use Rattle.journal_theory.proofs.Deciding.{deciding, decides-step}
use Rattle.shard_core.proofs.Stands.{room_of}
use Rattle.journal_theory.proofs.Answering.{answered-next}
use Rattle.shard_core.proofs.Effects.{nothing_adds, decision_adds}

-- ---- by what the code asks the buffer

add-none : (n : ℕ) → n + 0 ≡ n
add-none n = omega arith

root_off : (m : ℕ) (o : Option ℕ) → is_root_due m 0 o ≡ false
root_off m None = refl
root_off m (Some c) = refl

-- with root wait off, being due is a matter of the opening, or of the size
due_off : (m w : ℕ) (e : Episode) → is_due_at m w 0 e ≡ (is_none e.verdict && (nat_le (e.moment + w) m || is_too_big e.maximum e.spans))
due_off m w e = ap (λ b. is_none e.verdict && (nat_le (e.moment + w) m || b || is_too_big e.maximum e.spans)) (root_off m e.first_root) ∙ ap (λ b. is_none e.verdict && b) (or-skip (nat_le (e.moment + w) m) (is_too_big e.maximum e.spans))
  where
    or-skip : (a b : Bool) → (a || false || b) ≡ (a || b)
    or-skip true b = refl
    or-skip false b = refl

due_each : (fin : Bool) (c m w r : ℕ) (es : List Episode) → opened_by c es ≡ true → let d = cond {A = ℕ × ℕ × ℕ} fin (c, 0, 0) (m, w, r) in Each (λ (e : Episode). is_due_at d.0 d.1 d.2 e ≡ is_due_by fin m w r e) es
due_each fin c m w r [] h = tt
due_each true c m w r (e ∷ es) h = go (nat_le e.moment c) refl h (due_each true c m w r es)
  where
    go : (b : Bool) → nat_le e.moment c ≡ b → (b && opened_by c es) ≡ true → (opened_by c es ≡ true → Each (λ (e : Episode). is_due_at c 0 0 e ≡ is_due_by true m w r e) es) → Each (λ (e : Episode). is_due_at c 0 0 e ≡ is_due_by true m w r e) (e ∷ es)
    go true k h f = (due_off c 0 e ∙ ap (λ n. is_none e.verdict && (nat_le n c || is_too_big e.maximum e.spans)) (add-none e.moment) ∙ ap (λ b. is_none e.verdict && (b || is_too_big e.maximum e.spans)) k, f h)
    go false k h f = absurd (cc h)
due_each false c m w r (e ∷ es) h = (refl, due_rest (nat_le e.moment c) h (due_each false c m w r es))
  where
    due_rest : (b : Bool) → (b && opened_by c es) ≡ true → (opened_by c es ≡ true → Each (λ (e : Episode). is_due_at m w r e ≡ is_due_by false m w r e) es) → Each (λ (e : Episode). is_due_at m w r e ≡ is_due_by false m w r e) es
    due_rest true h f = f h
    due_rest false h f = absurd (cc h)

find_same : (p q : Episode → Bool) (es : List Episode) → Each (λ e. p e ≡ q e) es → find p es ≡ find q es
find_same p q [] h = refl
find_same p q (e ∷ es) h = rw (h.0) (ap (λ (r : Option Episode). cond (q e) (Some e) r) (find_same p q es h.1))

settle_same : (m w r : ℕ) (v : Verdict) (q : Episode → Bool) (es : List Episode) → Each (λ e. is_due_at m w r e ≡ q e) es → settle_first m w r v es ≡ set_first q (settled v) es
settle_same m w r v q [] h = refl
settle_same m w r v q (e ∷ es) h = rw (h.0) (ap (λ (r : List Episode). cond (q e) (settled v e ∷ es) (e ∷ r)) (settle_same m w r v q es h.1))

pub due_is : (h : Held) → opened_by h.standing.clock h.standing.episodes ≡ true → find (is_due_at (due_by h).0 (due_by h).1 (due_by h).2) h.standing.episodes ≡ find (is_due_in h) h.standing.episodes
due_is h o = find_same (is_due_at (due_by h).0 (due_by h).1 (due_by h).2) (is_due_in h) h.standing.episodes (due_each (is_finished h) h.standing.clock h.standing.mark h.waits.decision_wait h.waits.root_wait h.standing.episodes o)

any_found : (q : Episode → Bool) (es : List Episode) → list_any q es ≡ is_some (find q es)
any_found q [] = refl
any_found q (e ∷ es) = (elim (q e) as (λ b. (b || list_any q es) ≡ is_some (cond b (Some e) (find q es))) [ true ↦ refl | false ↦ any_found q es ])

pub has_due_is : (h : Held) → opened_by h.standing.clock h.standing.episodes ≡ true → is_some (find (is_due_at (due_by h).0 (due_by h).1 (due_by h).2) h.standing.episodes) ≡ has_due h
has_due_is h o = ap is_some (due_is h o) ∙ sym (any_found (is_due_in h) h.standing.episodes)

pub nothing_due : (h : Held) → opened_by h.standing.clock h.standing.episodes ≡ true → find (is_due_at (due_by h).0 (due_by h).1 (due_by h).2) h.standing.episodes ≡ None → has_due h ≡ false
nothing_due h o f = sym (has_due_is h o) ∙ ap is_some f

-- what a decision does by these answers of the limiter
module _ {L : Type 0} (asks : L → ℕ → ℕ → ℕ → Bool → L → Type 0) (h : Held) (w : 0 < h.waits.decision_wait) (l : 0 < h.num_traces) (o : opened_by h.standing.clock h.standing.episodes ≡ true) where
  abbrev Does : (new : Held) → Decided → (before after : L) → (answers : List Bool) → Journal → ℕ → Type 0
  Does new answer before after answers past k = DecidesFirst asks h new answer before after answers past (drop k (due_now (settings h) past))
      × StandsFor new (journal_after answer past answers) (dealt_after answer k) × AddsDecision (settings h) answer answers past k

  pub decides_nothing : (limiter : L) (past : Journal) (k : ℕ) → find (is_due_at (due_by h).0 (due_by h).1 (due_by h).2) h.standing.episodes ≡ None → StandsFor h past k → Does h Nothing limiter limiter [] past k
  decides_nothing limiter past k f s =
      let gone = nothing_left (settings h) (room_of h l) past k h.standing w s.0 s.1 s.2 (sym (due_is h o) ∙ f) in
      let P = λ (os : List Opening). DecidesFirst asks h h Nothing limiter limiter [] past os in
      (subst P (sym gone) (refl, refl, refl), s, nothing_adds (settings h) past k)

  -- the episode that is found has the greatest size of the settings
  maximum_is : (past : Journal) (k : ℕ) (e : Episode) → find (is_due_at (due_by h).0 (due_by h).1 (due_by h).2) h.standing.episodes ≡ Some e → StandsFor h past k → e.maximum ≡ h.waits.maximum_trace_size
  maximum_is past k e f s = go (reverse (in_buffer (settings h) (notes_dealt (settings h) past k))) (subst P held f)
    where
      p : Episode → Bool
      p = is_due_at (due_by h).0 (due_by h).1 (due_by h).2

      of : Opening → Episode
      of = episode (settings h) past (notes_dealt (settings h) past k)

      P : List Episode → Type 0
      P = λ es. find p es ≡ Some e

      held : h.standing.episodes ≡ map of (reverse (in_buffer (settings h) (notes_dealt (settings h) past k)))
      held = ap (λ (st : Standing). st.episodes) s.1

      go : (os : List Opening) → find p (map of os) ≡ Some e → e.maximum ≡ h.waits.maximum_trace_size
      go [] g = absurd (cc g)
      go (x ∷ os) g = (elim (p (of x)) as (λ b. cond b (Some (of x)) (find p (map of os)) ≡ Some e → e.maximum ≡ h.waits.maximum_trace_size) [
        | true ↦ λ g. let is : of x ≡ e = cc g in sym (ap (λ (y : Episode). y.maximum) is)
        | false ↦ λ g. go os g
      ]) g

  -- and so the policies that decide it are those for its spans
  on_is : (past : Journal) (k : ℕ) (e : Episode) → find (is_due_at (due_by h).0 (due_by h).1 (due_by h).2) h.standing.episodes ≡ Some e → StandsFor h past k → policies_on (settings h).policies e ≡ policies_for (settings h) e.spans
  on_is past k e f s = ap (λ (m : ℕ). cond (is_too_big m e.spans) no_more (settings h).policies) (maximum_is past k e f s)

  -- the episode is decided by these policies
  abbrev Settled : (new : Held) → Decided → (answers : List Bool) → Episode → Policies → Type 0
  Settled new answer answers e ps =
      let v = verdict_given ps answers e.spans in
      Releases answer e.spans v × (new ≡ record h { standing = record h.standing { episodes = settle_first (due_by h).0 (due_by h).1 (due_by h).2 v h.standing.episodes } })

  decides-in : (new : Held) (answer : Decided) (before after : L) (answers : List Bool) (e : Episode) (x : Entry) (earlier : Journal) (k : ℕ) → let past : Journal = x ∷ earlier in
      find (is_due_at (due_by h).0 (due_by h).1 (due_by h).2) h.standing.episodes ≡ Some e → SettlesFirst h (due_by h).0 (due_by h).1 (due_by h).2 answers answer new →
      are_answered (policies_on (settings h).policies e) answers e.spans ≡ true → Asked asks (h.standing.clock / 1000) (amount_at (policies_on (settings h).policies e) e.spans) (asked_given (policies_on (settings h).policies e) answers e.spans) answers before after →
      StandsFor h past k → Does new answer before after answers past k
  decides-in new answer before after answers e x earlier k f t a q s =
      let past : Journal = x ∷ earlier in
      let policies = policies_for (settings h) in
      let on = on_is past k e f s in
      let settle = subst (λ (ps : Policies). Settled new answer answers e ps) on (t e f) in
      let step = decides-step (settings h) (room_of h l) x earlier k h.standing e w s.0 s.1 s.2 (sym (due_is h o) ∙ f) in
      let p = step.0 in
      let v = verdict_given (policies e.spans) answers e.spans in
      let R = λ (spans : List Arrival). Releases answer spans (verdict_given (policies spans) answers spans) in
      let A = λ (spans : List Arrival). are_answered (policies spans) answers spans ≡ true in
      let Q = λ (spans : List Arrival) (c : ℕ). Asked asks (c / 1000) (amount_at (policies spans) spans) (asked_given (policies spans) answers spans) answers before after in
      let A' = λ (ps : Policies). are_answered ps answers e.spans ≡ true in
      let Q' = λ (ps : Policies). Asked asks (h.standing.clock / 1000) (amount_at ps e.spans) (asked_given ps answers e.spans) answers before after in
      let same = sym step.3 in
      let released = subst R same settle.0 in
      let fits = subst A same (subst A' on a) in
      let clocks : h.standing.clock ≡ clock past = ap (λ (st : Standing). st.clock) s.1 in
      let asked = subst (λ (c : ℕ). Q (spans_since past p) c) clocks (subst (λ (spans : List Arrival). Q spans h.standing.clock) same (subst Q' on q)) in
      let P = λ (os : List Opening). DecidesFirst asks h new answer before after answers past os in
      let first = subst P (sym step.2) (released, fits, asked) in
      let due = settle_same (due_by h).0 (due_by h).1 (due_by h).2 v (is_due_in h) h.standing.episodes (due_each (is_finished h) h.standing.clock h.standing.mark h.waits.decision_wait h.waits.root_wait h.standing.episodes o) in
      let is : new ≡ record h { standing = deciding (settings h) (room_of h l) h.standing v } = settle.1 ∙ ap (λ (es : List Episode). record h { standing = record h.standing { episodes = es } }) due in
      let S = λ (n : Held). StandsFor n (answered past answers) (k + 1) in
      let U = λ (n : ℕ). IsAnsweredUpTo (settings h) (answered past answers) n in
      let stands = subst S (sym is) (s.0, sym (step.4 answers), subst U (sym (add-one k)) (answered-next (settings h) past k answers p step.1 step.2 s.2 fits)) in
      (first, by_answer answer released stands, decision_adds (settings h) x earlier k answer answers p step.1 step.2 s.2 released)
    where
      by_answer : (y : Decided) → Releases y (spans_since (x ∷ earlier) (decides-step (settings h) (room_of h l) x earlier k h.standing e w s.0 s.1 s.2 (sym (due_is h o) ∙ f)).0) (verdict_given (policies_for (settings h) (spans_since (x ∷ earlier) (decides-step (settings h) (room_of h l) x earlier k h.standing e w s.0 s.1 s.2 (sym (due_is h o) ∙ f)).0)) answers (spans_since (x ∷ earlier) (decides-step (settings h) (room_of h l) x earlier k h.standing e w s.0 s.1 s.2 (sym (due_is h o) ∙ f)).0)) →
          StandsFor new (answered (x ∷ earlier) answers) (k + 1) → StandsFor new (journal_after y (x ∷ earlier) answers) (dealt_after y k)
      by_answer (Release v) r g = g
      by_answer (NotReleased n) r g = g
      by_answer Nothing r g = absurd r

  -- a shard that has taken nothing has no episode
  none_at_first : (e : Episode) (k : ℕ) → find (is_due_at (due_by h).0 (due_by h).1 (due_by h).2) h.standing.episodes ≡ Some e → StandsFor h [] k → ⊥
  none_at_first e k f s =
      let none : h.standing.episodes ≡ map (episode (settings h) [] (notes_dealt (settings h) [] k)) (reverse (in_buffer (settings h) (notes_dealt (settings h) [] k))) = ap (λ (st : Standing). st.episodes) s.1 in
      let P = λ (es : List Episode). find (is_due_at (due_by h).0 (due_by h).1 (due_by h).2) es ≡ Some e in
      no_openings h.num_traces (subst P none f)
    where
      no_openings : (n : ℕ) → find (is_due_at (due_by h).0 (due_by h).1 (due_by h).2) (map (episode (settings h) [] (notes_dealt (settings h) [] k)) (reverse (take n []))) ≡ Some e → ⊥
      no_openings zero f = cc f
      no_openings (suc n) f = cc f

  pub decides_some : (new : Held) (answer : Decided) (before after : L) (answers : List Bool) (e : Episode) (past : Journal) (k : ℕ) →
      find (is_due_at (due_by h).0 (due_by h).1 (due_by h).2) h.standing.episodes ≡ Some e → SettlesFirst h (due_by h).0 (due_by h).1 (due_by h).2 answers answer new →
      are_answered (policies_on (settings h).policies e) answers e.spans ≡ true → Asked asks (h.standing.clock / 1000) (amount_at (policies_on (settings h).policies e) e.spans) (asked_given (policies_on (settings h).policies e) answers e.spans) answers before after →
      StandsFor h past k → Does new answer before after answers past k
  decides_some new answer before after answers e [] k f t a q s = absurd (none_at_first e k f s)
  decides_some new answer before after answers e (x ∷ earlier) k f t a q s = decides-in new answer before after answers e x earlier k f t a q s

  -- ---- which policy decided

  pub decider_nothing : (past : Journal) (k : ℕ) → find (is_due_at (due_by h).0 (due_by h).1 (due_by h).2) h.standing.episodes ≡ None → StandsFor h past k
      → TellsDecider (settings h) None [] past (drop k (due_now (settings h) past))
  decider_nothing past k f s =
      let gone = nothing_left (settings h) (room_of h l) past k h.standing w s.0 s.1 s.2 (sym (due_is h o) ∙ f) in
      let P = λ (os : List Opening). TellsDecider (settings h) None [] past os in
      subst P (sym gone) refl

  pub decider_some : (answers : List Bool) (decider : Option ℕ) (e : Episode) (past : Journal) (k : ℕ) → find (is_due_at (due_by h).0 (due_by h).1 (due_by h).2) h.standing.episodes ≡ Some e
      → decider ≡ decider_given (policies_on (settings h).policies e) answers e.spans → StandsFor h past k → TellsDecider (settings h) decider answers past (drop k (due_now (settings h) past))
  decider_some answers decider e [] k f d s = absurd (none_at_first e k f s)
  decider_some answers decider e (x ∷ earlier) k f d s =
      let past : Journal = x ∷ earlier in
      let policies = policies_for (settings h) in
      let on = on_is past k e f s in
      let step = decides-step (settings h) (room_of h l) x earlier k h.standing e w s.0 s.1 s.2 (sym (due_is h o) ∙ f) in
      let D = λ (spans : List Arrival). decider ≡ decider_given (policies spans) answers spans in
      let D' = λ (ps : Policies). decider ≡ decider_given ps answers e.spans in
      let P = λ (os : List Opening). TellsDecider (settings h) decider answers past os in
      subst P (sym step.2) (subst D (sym step.3) (subst D' on d))

  pub told_nothing : (told : List Answer) (past : Journal) (k : ℕ) → find (is_due_at (due_by h).0 (due_by h).1 (due_by h).2) h.standing.episodes ≡ None → told ≡ [] → StandsFor h past k
      → TellsAnswers (settings h) told [] past (drop k (due_now (settings h) past))
  told_nothing told past k f d s =
      let gone = nothing_left (settings h) (room_of h l) past k h.standing w s.0 s.1 s.2 (sym (due_is h o) ∙ f) in
      let P = λ (os : List Opening). TellsAnswers (settings h) told [] past os in
      subst P (sym gone) d

  pub told_some : (answers : List Bool) (told : List Answer) (e : Episode) (past : Journal) (k : ℕ) → find (is_due_at (due_by h).0 (due_by h).1 (due_by h).2) h.standing.episodes ≡ Some e
      → told ≡ told_given (policies_on (settings h).policies e) answers e.spans → StandsFor h past k → TellsAnswers (settings h) told answers past (drop k (due_now (settings h) past))
  told_some answers told e [] k f d s = absurd (none_at_first e k f s)
  told_some answers told e (x ∷ earlier) k f d s =
      let past : Journal = x ∷ earlier in
      let policies = policies_for (settings h) in
      let on = on_is past k e f s in
      let step = decides-step (settings h) (room_of h l) x earlier k h.standing e w s.0 s.1 s.2 (sym (due_is h o) ∙ f) in
      let D = λ (spans : List Arrival). told ≡ told_given (policies spans) answers spans in
      let D' = λ (ps : Policies). told ≡ told_given ps answers e.spans in
      let P = λ (os : List Opening). TellsAnswers (settings h) told answers past os in
      subst P (sym step.2) (subst D (sym step.3) (subst D' on d))

-- what is decided, whatever the policies said
pub without_answers : {L : Type 0} (asks : L → ℕ → ℕ → ℕ → Bool → L → Type 0) (old new : Held) (answer : Decided) (decider : Option ℕ) (told : List Answer) (before after : L) → DecidesWithAnswers asks old new answer decider told before after → DecidesWithDecider asks old new answer decider before after
without_answers asks old new answer decider told before after d = (d.0, λ past k s. let m = d.1 past k s in (m.0, m.1, m.2, m.3))

-- what is decided, whichever policy did
pub without_decider : {L : Type 0} (asks : L → ℕ → ℕ → ℕ → Bool → L → Type 0) (old new : Held) (answer : Decided) (decider : Option ℕ) (before after : L) → DecidesWithDecider asks old new answer decider before after → Decides asks old new answer before after
without_decider asks old new answer decider before after d = (d.0, λ past k s. let m = d.1 past k s in (m.0, m.1, m.2))

-- ---- what is left to decide

abbrev open_in : List Episode → ℕ
open_in es = length (filter (λ (e : Episode). is_none e.verdict) es)

less-head : (x : Episode) (es : List Episode) → is_none x.verdict ≡ true → open_in es < open_in (x ∷ es)
less-head x es h = rw h (omega arith)

less-tail : (x : Episode) (b : Bool) (es fs : List Episode) → is_none x.verdict ≡ b → open_in es < open_in fs → open_in (x ∷ es) < open_in (x ∷ fs)
less-tail x true es fs h l = rw h (omega (arith, l))
less-tail x false es fs h l = rw h l

left-true : (a b : Bool) → (a && b) ≡ true → a ≡ true
left-true true b h = refl
left-true false b h = cc

count-less : (m w r : ℕ) (v : Verdict) (es : List Episode) (y : Episode) → find (is_due_at m w r) es ≡ Some y → open_in (settle_first m w r v es) < open_in es
count-less m w r v [] y e = cc
count-less m w r v (x ∷ es) y e = (elim (is_due_at m w r x) as (λ b. is_due_at m w r x ≡ b → cond b (Some x) (find (is_due_at m w r) es) ≡ Some y → open_in (cond b (settled v x ∷ es) (x ∷ settle_first m w r v es)) < open_in (x ∷ es)) [
  | true ↦ λ h e. less-head x es (left-true (is_none x.verdict) _ h)
  | false ↦ λ h e. less-tail x (is_none x.verdict) (settle_first m w r v es) es refl (count-less m w r v es y e)
]) refl e

pub waits_less : (h new : Held) (m w r : ℕ) (answers : List Bool) (e : Episode) (answer : Decided) → find (is_due_at m w r) h.standing.episodes ≡ Some e → SettlesFirst h m w r answers answer new → waiting new < waiting h
waits_less h new m w r answers e answer f t =
    let s = t e f in
    let P = λ (es : List Episode). open_in es < waiting h in
    subst P (sym (ap (λ (n : Held). n.standing.episodes) s.1)) (count-less m w r (verdict_given (policies_on (meaning h.policies) e) answers e.spans) h.standing.episodes e f)
