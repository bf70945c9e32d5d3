-- What a shard that stands for a journal stands for after the journal's next decision.
-- For `decides_standing` of `laws`, and the clause `decides` of `Shard::decide`.
use Rattle.std.proofs.Common.{◌≡◌, ℕ, zero, suc, ◌+◌, ◌<◌, ◌==◌, Bool, true, false, ◌&&◌, cond, List, [], ◌∷◌, ◌++◌, map, reverse, take, drop, Option, Some, None, option_map, refl, sym, ap, subst, ◌∙◌, add-one}
use Rattle.std.specs.List.{list_all, find}
use Rattle.std.specs.Option.{is_none}
use Rattle.std.proofs.lemmas.List.{reverse-append}
use Rattle.policy_eval.specs.Given.{verdict_given}
use Rattle.trace_buffer.specs.Buffer.{Episode, settled}
use Rattle.journal_theory.specs.Journal.{Entry, Settings, Journal, StoppedInTime, last_of, Opening, Decision, Notes, notes, notes_dealt, decided_as, due_now, policies_for, decision, decisions_now, have_ended, clock, spans_since, after_decisions, answered, IsAnsweredUpTo}
use Rattle.journal_theory.specs.Standing.{Standing, standing, episode, cache, mark, ends, spans_left}
use Rattle.otlp_types.specs.declared.arrival.Arrival.{Arrival}
use Rattle.span_ids.specs.declared.outcome.Verdict.{Verdict}
use Rattle.span_ids.specs.declared.outcome.Verdict.TheVariants.{Sampled, NotSampled}
use Rattle.journal_theory.specs.Deciding.{decide_first, is_due_held, DecidesNext, DecidesStanding, is_due_by}
use Rattle.journal_theory.proofs.Lists.{set_first, filter-from_find, find-each, find-passes, Each-weaken}
use Rattle.journal_theory.proofs.ListFacts.{Each, Pairs as Apart}
use Rattle.journal_theory.proofs.Notes.{HasRoom}
use Rattle.journal_theory.proofs.Sound.{sound_item, sound_notes}
use Rattle.journal_theory.proofs.Due.{front, front-places, OtherPlace, eqb-same, open_due, known, stopped-before, item_notes, due_list, due-dealt, nothing_left, all_ended, find-episodes, episode-due, DueIn}
use Rattle.journal_theory.proofs.Answering.{standing-answered}

decided_as-own : (m noted : Notes) (d : Decision) (o : Opening) → m.decisions ≡ d ∷ noted.decisions → (d.opening.at == o.at) ≡ true → decided_as m o.at ≡ Some d.verdict
decided_as-own m noted d o e h = rw (e, h) refl

decided_as-other : (m noted : Notes) (d : Decision) (o : Opening) → m.decisions ≡ d ∷ noted.decisions → (d.opening.at == o.at) ≡ false → decided_as m o.at ≡ decided_as noted o.at
decided_as-other m noted d o e h = rw (e, h) refl

episode-settled : (s : Settings) (past : Journal) (m noted : Notes) (o : Opening) (v : Verdict) → decided_as m o.at ≡ Some v → settled v (episode s past noted o) ≡ episode s past m o
episode-settled s past m noted o v e = rw e refl

episode-kept : (s : Settings) (past : Journal) (m noted : Notes) (o : Opening) → decided_as m o.at ≡ decided_as noted o.at → episode s past noted o ≡ episode s past m o
episode-kept s past m noted o e = rw e refl

map-same : (f g : Opening → Episode) (os : List Opening) → Each (λ o. f o ≡ g o) os → map f os ≡ map g os
map-same f g [] a = refl
map-same f g (o ∷ os) a = rw (a.0) (ap (λ (es : List Episode). g o ∷ es) (map-same f g os a.1))

module _ (s : Settings) (room : HasRoom s.num_traces) where
  abbrev test : Journal → Notes → Opening → Bool
  test past noted o = open_due s room past noted o

  settle-map : (past : Journal) (m noted : Notes) (d : Decision) (os : List Opening) → m.decisions ≡ d ∷ noted.decisions → Apart OtherPlace os → find (test past noted) os ≡ Some d.opening →
      set_first (is_due_by (have_ended past s.senders) (mark past) s.decision_wait s.root_wait) (settled d.verdict) (map (episode s past noted) os) ≡ map (episode s past m) os
  settle-map past m noted d [] e a f = cc
  settle-map past m noted d (o ∷ os) e a f = ap (λ b. cond b (settled d.verdict (episode s past noted o) ∷ map (episode s past noted) os) (episode s past noted o ∷ set_first (is_due_by (have_ended past s.senders) (mark past) s.decision_wait s.root_wait) (settled d.verdict) (map (episode s past noted) os))) (episode-due s room past noted (have_ended past s.senders) (mark past) o) ∙ (elim (test past noted o) as (λ b. cond b (Some o) (find (test past noted) os) ≡ Some d.opening →
      cond b (settled d.verdict (episode s past noted o) ∷ map (episode s past noted) os) (episode s past noted o ∷ set_first (is_due_by (have_ended past s.senders) (mark past) s.decision_wait s.root_wait) (settled d.verdict) (map (episode s past noted) os)) ≡ episode s past m o ∷ map (episode s past m) os) [
        | true ↦ λ f.
            let same : o ≡ d.opening = cc in
            let at : (d.opening.at == o.at) ≡ true = ap (λ (p : Opening). p.at == o.at) (sym same) ∙ eqb-same o.at in
            let first = episode-settled s past m noted o d.verdict (decided_as-own m noted d o e at) in
            let rest = map-same (episode s past noted) (episode s past m) os (Each-weaken (OtherPlace o) (λ p. episode s past noted p ≡ episode s past m p)
            (λ p w. episode-kept s past m noted p (decided_as-other m noted d p e (ap (λ (q : Opening). q.at == p.at) (sym same) ∙ w.0))) os a.0) in
            cc
        | false ↦ λ f.
            let apart : OtherPlace o d.opening = find-each (OtherPlace o) (test past noted) os d.opening a.0 f in
            let first = episode-kept s past m noted o (decided_as-other m noted d o e apart.1) in
            let rest = settle-map past m noted d os e a.1 f in
            cc
      ]) f

  -- what is found in the shard is the opening's episode
  opening_of : (f : Opening → Episode) (o : Option Opening) (e : Episode) → option_map f o ≡ Some e → (p : Opening) × (o ≡ Some p) × (f p ≡ e)
  opening_of f None e h = cc
  opening_of f (Some p) e h = (p, refl, cc)

  none-left : (o : Option Verdict) (b : Bool) → (is_none o && b) ≡ true → o ≡ None
  none-left None b h = refl
  none-left (Some v) b h = cc

  take-one : (k : ℕ) → k + 1 ≡ suc k
  take-one k = add-one k

  -- what the k-th decision at the last item leaves
  abbrev pub deciding : Standing → Verdict → Standing
  deciding st v = record st { episodes = set_first (DueIn s room st) (settled v) st.episodes }

  pub decides-step : (x : Entry) (before : Journal) (k : ℕ) (st : Standing) (e : Episode) → let past : Journal = x ∷ before in
      0 < s.decision_wait → have_ended before s.senders ≡ false → st ≡ standing s past k → IsAnsweredUpTo s past k → find (DueIn s room st) st.episodes ≡ Some e →
      (o : Opening) × (later : List Opening) × (drop k (due_now s past) ≡ o ∷ later) × (spans_since past o ≡ e.spans)
      × ((answers : List Bool) → standing s (answered past answers) (k + 1) ≡ deciding st (verdict_given (policies_for s e.spans) answers e.spans))
  decides-step x before k st e w h eq given f =
      let past : Journal = x ∷ before in
      let g = known s room before w (stopped-before s room x before h) given.1 in
      let m = item_notes s room x before in
      let os = due_list s room x before in
      let n = notes_dealt s past k in
      let R = front s room m in
      let now = standing s past k in
      let IsFound = λ (t : Standing). find (DueIn s room t) t.episodes ≡ Some e in
      let f1 : find (is_due_by (list_all (λ b. b) (ends past s.senders)) (mark past) s.decision_wait s.root_wait) (map (episode s past n) R) ≡ Some e = subst IsFound eq f in
      let IsFoundBy = λ (b : Bool). find (is_due_by b (mark past) s.decision_wait s.root_wait) (map (episode s past n) R) ≡ Some e in
      let f2 : find (is_due_by (have_ended past s.senders) (mark past) s.decision_wait s.root_wait) (map (episode s past n) R) ≡ Some e = subst IsFoundBy (all_ended s room past s.senders) f1 in
      let o = opening_of (episode s past n) (find (test past n) R) e (sym (find-episodes s room past n (have_ended past s.senders) (mark past) R) ∙ f2) in
      let p = o.0 in
      let rest = filter-from_find (test past n) R p o.1 in
      let left : drop k os ≡ p ∷ rest.0 = ◌∙◌ {c = p ∷ rest.0} (sym (due-dealt s room x before k h w g given)) rest.1 in
      let undecided : decided_as n p.at ≡ None = none-left (decided_as n p.at) _ (find-passes (test past n) R p o.1) in
      let spans : spans_since past p ≡ e.spans = sym (ap (λ (q : Episode). q.spans) (sym o.2) ∙ ap (λ (y : Option Verdict). spans_left (spans_since past p) y) undecided) in
      let places = front-places s room past m (sound_item s room before x.item x (notes s before) (sound_notes s room before)) in (
        p,
        rest.0,
        left,
        spans,
        λ answers.
            let v = verdict_given (policies_for s e.spans) answers e.spans in
            let d = decision s past p answers in
            let ds = take k (decisions_now s past) in
            let judgement : d.verdict ≡ v = ap (λ (xs : List Arrival). verdict_given (policies_for s xs) answers xs) spans in
            let after = after_decisions (ds ++ d ∷ []) m in
            let one_more : after.decisions ≡ d ∷ n.decisions = ap (λ q. q ++ m.decisions) (reverse-append ds (d ∷ [])) in
            let moved = settle-map past after n d R one_more places o.1 in
            let H = λ (es : List Episode). (let t : Standing = record { episodes = es; sampled = cache s n Sampled; non_sampled = cache s n NotSampled; clock = clock past; mark = mark past; ends = ends past s.senders } in t) in
            let into : deciding st v ≡ deciding now v = ap (λ (t : Standing). deciding t v) eq in
            let by_ends : deciding now v ≡ H (set_first (is_due_by (have_ended past s.senders) (mark past) s.decision_wait s.root_wait) (settled v) (map (episode s past n) R))
            = ap (λ b. H (set_first (is_due_by b (mark past) s.decision_wait s.root_wait) (settled v) (map (episode s past n) R))) (all_ended s room past s.senders) in
            let by_verdict = ap (λ (y : Verdict). H (set_first (is_due_by (have_ended past s.senders) (mark past) s.decision_wait s.root_wait) (settled y) (map (episode s past n) R))) (sym judgement) in
            ap (standing s (answered past answers)) (take-one k) ∙ standing-answered s x before k answers p rest.0 left given ∙ sym (into ∙ by_ends ∙ by_verdict ∙ ap H moved),
      )

-- ---- the next decision

first_set : (p : Episode → Bool) (v : Verdict) (es : List Episode) → set_first p (settled v) es ≡ decide_first p v es
first_set p v [] = refl
first_set p v (e ∷ es) = ap (λ (r : List Episode). cond (p e) (settled v e ∷ es) (e ∷ r)) (first_set p v es)

none_found : (s : Settings) (k : ℕ) (e : Episode) (num_traces : Option ℕ) → find (is_due_held s.decision_wait s.root_wait (standing s [] k)) (map (episode s [] (notes_dealt s [] k)) (reverse (last_of num_traces []))) ≡ Some e → ⊥
none_found s k e None f = cc f
none_found s k e (Some zero) f = cc f
none_found s k e (Some (suc n)) f = cc f

some_next : (s : Settings) → HasRoom s.num_traces → 0 < s.decision_wait → (past : Journal) (k : ℕ) → StoppedInTime s past → IsAnsweredUpTo s past k → (e : Episode) → find (is_due_held s.decision_wait s.root_wait (standing s past k)) (standing s past k).episodes ≡ Some e → DecidesNext s past k (Some e)
some_next s room w [] k h g e f = absurd (none_found s k e s.num_traces f)
some_next s room w (x ∷ before) k h g e f =
    let st = standing s (x ∷ before) k in
    let step = decides-step s room x before k st e w h refl g f in (
      step.0,
      step.1,
      step.2,
      step.3,
      λ answers.
          let v = verdict_given (policies_for s e.spans) answers e.spans in
          step.4 answers ∙ ap (λ (es : List Episode). record st { episodes = es }) (first_set (is_due_held s.decision_wait s.root_wait st) v st.episodes),
    )

next : (s : Settings) → HasRoom s.num_traces → 0 < s.decision_wait → (past : Journal) (k : ℕ) → StoppedInTime s past → IsAnsweredUpTo s past k → (r : Option Episode) → find (is_due_held s.decision_wait s.root_wait (standing s past k)) (standing s past k).episodes ≡ r → DecidesNext s past k r
next s room w past k h g None f = nothing_left s room past k (standing s past k) w h refl g f
next s room w past k h g (Some e) f = some_next s room w past k h g e f

pub decides_standing : DecidesStanding
decides_standing s past dealt room w h g = next s room w past dealt h g (find (is_due_held s.decision_wait s.root_wait (standing s past dealt)) (standing s past dealt).episodes) refl
