-- What the answers of a shard hand over and count is what the definitions release and count.
-- For the contracts of `decide` and `take`.
use Rattle.std.proofs.Common.{◌≡◌, ℕ, suc, ◌+◌, ◌<◌, Bool, true, false, cond, List, [], ◌∷◌, ◌++◌, map, length, take, drop, Option, Some, None, option_map, refl, sym, ap, ◌∙◌, arith, append-nil, append_assoc, add-one, length-append}
use Rattle.std.specs.List.{filter}
use Rattle.std.proofs.lemmas.List.{map-append}
use Rattle.std.proofs.lemmas.List.Elements.{filter-append}
use Rattle.journal_theory.specs.Journal.{Entry, Settings, Journal, Decision, Notes, Finding, joins, meets, opens, Opening, notes, finding, leaving, decided_as, policies_for, spans_since, due_now, decision, decisions_now, has_finished, answered, IsAnswered, IsAnsweredUpTo}
use Rattle.journal_theory.specs.Standing.{spans_left, evicted_of}
use Rattle.journal_theory.specs.Fate.{DroppedSpan, Effect, counts, under, is_same_reason, effect, effect_dealt, effect_of_taking, effect_of_item, effect_of_span, effect_of_finding, effect_of_leaving, effect_of_leaving_decided, effect_of_verdict, effect_of_decision, effect_of_decisions, released_dealt, dropped_dealt}
use Rattle.shard_core.specs.Held.{Held, settings, StandsFor, has_due, is_due_in}
use Rattle.shard_core.specs.Taking.{entry, answer_to, answer_to_ids, answer_to_item, answer_to_finding, spans_left_by, released_by, dropped_by, released_in, dropped_in, Releases, AddsDecision}
use Rattle.policy_eval.specs.Given.{verdict_given}
use Rattle.shard_core.specs.declared.answer.Taken.{Taken}
use Rattle.shard_core.specs.declared.answer.Taken.TheVariants.{Ended, Finished}
use Rattle.shard_core.specs.declared.answer.Decided.{Decided}
use Rattle.shard_core.specs.declared.answer.Decided.TheVariants.{Release, Nothing, Dropped as NotReleased}
use Rattle.otlp_types.specs.declared.span.Ids.{Ids}
use Rattle.otlp_types.specs.declared.arrival.Arrival.{Arrival}
use Rattle.otlp_types.specs.declared.arrival.Item.{Item}
use Rattle.otlp_types.specs.declared.arrival.Item.TheVariants.{Span, Tick, End}
use Rattle.span_ids.specs.declared.outcome.Reason.{Reason}
use Rattle.span_ids.specs.declared.outcome.Reason.TheVariants.{NoMemory, LateNotSampled, Evicted as EvictedReason, NotSampled as NotSampledReason}
use Rattle.span_ids.specs.declared.outcome.Verdict.{Verdict}
use Rattle.span_ids.specs.declared.outcome.Verdict.TheVariants.{Sampled, NotSampled}
use Rattle.journal_theory.proofs.Lists.{find-from_any}
use Rattle.journal_theory.proofs.Notes.{HasRoom}
use Rattle.journal_theory.proofs.Due.{nothing_left, turn-done, due_list}
use Rattle.shard_core.proofs.Stands.{room_of}
use Rattle.journal_theory.proofs.Answering.{decisions-answered, all-answered}

-- ---- how many are counted

abbrev pub number : Reason → List DroppedSpan → ℕ
number reason counted = length (under reason counted)

number-append : (reason : Reason) (xs ys : List DroppedSpan) → number reason (xs ++ ys) ≡ number reason xs + number reason ys
number-append reason xs ys =
    let p = λ (c : DroppedSpan). is_same_reason c.reason reason in
    ap (λ (cs : List DroppedSpan). length (map (λ (c : DroppedSpan). c.key) cs)) (filter-append p xs ys)
    ∙ ap length (map-append (λ (c : DroppedSpan). c.key) (filter p xs) (filter p ys))
    ∙ length-append (under reason xs) (under reason ys)

number-counts : (reason r : Reason) (b : Bool) → is_same_reason r reason ≡ b → (spans : List Arrival) → number reason (counts r spans) ≡ cond b (length spans) 0
number-counts reason r true h [] = refl
number-counts reason r false h [] = refl
number-counts reason r true h (a ∷ spans) = rw h (ap suc (number-counts reason r true h spans))
number-counts reason r false h (a ∷ spans) = rw h (number-counts reason r false h spans)

-- ---- an item

module _ (s : Settings) (room : HasRoom s.num_traces) where
  leaving-released : (before : Journal) (noted : Notes) (r : Option Opening) → (effect_of_leaving before noted r).released ≡ []
  leaving-released before noted None = refl
  leaving-released before noted (Some o) = go (decided_as noted o.at)
    where
      go : (d : Option Verdict) → (effect_of_leaving_decided EvictedReason (spans_since before o) d).released ≡ []
      go None = refl
      go (Some v) = refl

  nothing-counted : (b : Bool) → ◌≡◌ {A = ℕ} 0 (cond b 0 0)
  nothing-counted true = refl
  nothing-counted false = refl

  leaving-counted : (reason : Reason) (before : Journal) (noted : Notes) (r : Option Opening) → number reason (effect_of_leaving before noted r).counted ≡ cond (is_same_reason EvictedReason reason) (spans_left_by (option_map (evicted_of s before noted) r)) 0
  leaving-counted reason before noted None = nothing-counted (is_same_reason EvictedReason reason)
  leaving-counted reason before noted (Some o) = go (decided_as noted o.at)
    where
      go : (d : Option Verdict) → number reason (effect_of_leaving_decided EvictedReason (spans_since before o) d).counted ≡ cond (is_same_reason EvictedReason reason) (length (spans_left (spans_since before o) d)) 0
      go None = number-counts reason EvictedReason (is_same_reason EvictedReason reason) refl (spans_since before o)
      go (Some v) = nothing-counted (is_same_reason EvictedReason reason)

  found-released : (lost : Bool) (a : Arrival) (before : Journal) (noted : Notes) (f : Finding) → (effect_of_finding s before noted a f).released ≡ released_by (answer_to_finding s lost before noted a f)
  found-released lost a before noted (joins o) = refl
  found-released lost a before noted (meets o Sampled) = refl
  found-released lost a before noted (meets o NotSampled) = refl
  found-released lost a before noted opens = leaving-released before noted (leaving s.num_traces noted.openings)

  found-dropped : (reason : Reason) (lost : Bool) (a : Arrival) (before : Journal) (noted : Notes) (f : Finding) → number reason (effect_of_finding s before noted a f).counted ≡ dropped_by reason (answer_to_finding s lost before noted a f)
  found-dropped reason lost a before noted (joins o) = nothing-counted (is_same_reason EvictedReason reason)
  found-dropped reason lost a before noted (meets o Sampled) = refl
  found-dropped reason lost a before noted (meets o NotSampled) = number-counts reason LateNotSampled (is_same_reason LateNotSampled reason) refl (a ∷ [])
  found-dropped reason lost a before noted opens = leaving-counted reason before noted (leaving s.num_traces noted.openings)

  ids-released : (refused lost : Bool) (a : Arrival) (before : Journal) (ids : Option Ids) → (effect_of_span s before refused a ids).released ≡ released_by (answer_to_ids s refused lost before a ids)
  ids-released refused lost a before None = refl
  ids-released true lost a before (Some ids) = refl
  ids-released false lost a before (Some ids) = found-released lost a before (notes s before) (finding s (notes s before) ids.trace)

  ids-dropped : (reason : Reason) (refused lost : Bool) (a : Arrival) (before : Journal) (ids : Option Ids) → number reason (effect_of_span s before refused a ids).counted ≡ dropped_by reason (answer_to_ids s refused lost before a ids)
  ids-dropped reason refused lost a before None = nothing-counted (is_same_reason EvictedReason reason)
  ids-dropped reason true lost a before (Some ids) = number-counts reason NoMemory (is_same_reason NoMemory reason) refl (a ∷ [])
  ids-dropped reason false lost a before (Some ids) = found-dropped reason lost a before (notes s before) (finding s (notes s before) ids.trace)

  ended-released : (b : Bool) → [] ≡ released_by (cond b Finished Ended)
  ended-released true = refl
  ended-released false = refl

  ended-dropped : (reason : Reason) (b : Bool) → 0 ≡ dropped_by reason (cond b Finished Ended)
  ended-dropped reason true = refl
  ended-dropped reason false = refl

  item-released : (e : Entry) (before : Journal) (item : Item) → (effect_of_item s before e.refused item).released ≡ released_by (answer_to_item s e before item)
  item-released e before (Span a) = ids-released e.refused e.lost a before a.rec.span.ids
  item-released e before (Tick m) = refl
  item-released e before (End sender) = ended-released (has_finished s e before)

  item-dropped : (reason : Reason) (e : Entry) (before : Journal) (item : Item) → number reason (effect_of_item s before e.refused item).counted ≡ dropped_by reason (answer_to_item s e before item)
  item-dropped reason e before (Span a) = ids-dropped reason e.refused e.lost a before a.rec.span.ids
  item-dropped reason e before (Tick m) = refl
  item-dropped reason e before (End sender) = ended-dropped reason (has_finished s e before)

  -- where each decision was dealt with, all has been done
  dealt-effect : (past : Journal) (k : ℕ) → drop k (due_now s past) ≡ [] → effect_dealt s past k ≡ effect s past
  dealt-effect [] k h = refl
  dealt-effect (e ∷ before) k h =
      let t = turn-done s room (e ∷ before) k (due_list s room e before) e.answers h in
      let done = λ (ds : List Decision). let x : Effect = record { released = ((effect s before).released ++ (effect_of_taking s e before).released) ++ (effect_of_decisions ds).released; counted = ((effect s before).counted ++ (effect_of_taking s e before).counted) ++ (effect_of_decisions ds).counted } in x in
      ap done t

-- a shard in which nothing is due has dealt with each decision
pub all_dealt : (h : Held) (past : Journal) (k : ℕ) → 0 < h.waits.decision_wait → 0 < h.num_traces → has_due h ≡ false → StandsFor h past k → effect_dealt (settings h) past k ≡ effect (settings h) past
all_dealt h past k w l d t =
    let room = room_of h l in
    dealt-effect (settings h) room past k (nothing_left (settings h) room past k h.standing w t.0 t.1 t.2 (find-from_any (is_due_in h) h.standing.episodes d))

pub take_released : (h : Held) (item : Item) (answer : Taken) (past : Journal) (k : ℕ) → 0 < h.waits.decision_wait → 0 < h.num_traces → has_due h ≡ false → StandsFor h past k → answer ≡ answer_to (settings h) (entry item answer) past →
    released_dealt (settings h) (entry item answer ∷ past) 0 ≡ released_dealt (settings h) past k ++ released_by answer
take_released h item answer past k w l d t a =
    let x = effect (settings h) past in
    let own = item-released (settings h) (room_of h l) (entry item answer) past item ∙ ap released_by (sym a) in
    append-nil (x.released ++ (effect_of_taking (settings h) (entry item answer) past).released)
    ∙ ap (λ more. x.released ++ more) own
    ∙ ap (λ (y : Effect). y.released ++ released_by answer) (sym (all_dealt h past k w l d t))

pub take_dropped : (h : Held) (item : Item) (answer : Taken) (past : Journal) (k : ℕ) (reason : Reason) → 0 < h.waits.decision_wait → 0 < h.num_traces → has_due h ≡ false → StandsFor h past k → answer ≡ answer_to (settings h) (entry item answer) past →
    dropped_dealt (settings h) (entry item answer ∷ past) 0 reason ≡ dropped_dealt (settings h) past k reason + dropped_by reason answer
take_dropped h item answer past k reason w l d t a =
    let x = effect (settings h) past in
    let y = effect_of_taking (settings h) (entry item answer) past in
    let own = item-dropped (settings h) (room_of h l) reason (entry item answer) past item ∙ ap (dropped_by reason) (sym a) in
    ap (number reason) (append-nil (x.counted ++ y.counted))
    ∙ number-append reason x.counted y.counted
    ∙ ap (λ n. number reason x.counted + n) own
    ∙ ap (λ (y : Effect). number reason y.counted + dropped_by reason answer) (sym (all_dealt h past k w l d t))

-- ---- a decision

releases-released : (answer : Decided) (spans : List Arrival) (v : Verdict) → Releases answer spans v → (effect_of_verdict NotSampledReason spans v).released ≡ released_in answer
releases-released (Release xs) spans Sampled r = sym r
releases-released (Release xs) spans NotSampled r = absurd r
releases-released (NotReleased n) spans Sampled r = absurd r
releases-released (NotReleased n) spans NotSampled r = refl
releases-released Nothing spans v r = absurd r

releases-dropped : (reason : Reason) (answer : Decided) (spans : List Arrival) (v : Verdict) → Releases answer spans v → number reason (effect_of_verdict NotSampledReason spans v).counted ≡ dropped_in reason answer
releases-dropped reason (Release xs) spans Sampled r = refl
releases-dropped reason (Release xs) spans NotSampled r = absurd r
releases-dropped reason (NotReleased n) spans Sampled r = absurd r
releases-dropped reason (NotReleased n) spans NotSampled r = number-counts reason NotSampledReason (is_same_reason NotSampledReason reason) refl spans ∙ ap (λ k. cond (is_same_reason NotSampledReason reason) k 0) (sym r)
releases-dropped reason Nothing spans v r = absurd r

push-released : (ds : List Decision) (d : Decision) → (effect_of_decisions (ds ++ d ∷ [])).released ≡ (effect_of_decisions ds).released ++ (effect_of_decision d).released
push-released [] d = append-nil (effect_of_decision d).released
push-released (x ∷ ds) d = ap (λ ys. (effect_of_decision x).released ++ ys) (push-released ds d) ∙ sym (append_assoc (effect_of_decision x).released (effect_of_decisions ds).released (effect_of_decision d).released)

push-counted : (ds : List Decision) (d : Decision) → (effect_of_decisions (ds ++ d ∷ [])).counted ≡ (effect_of_decisions ds).counted ++ (effect_of_decision d).counted
push-counted [] d = append-nil (effect_of_decision d).counted
push-counted (x ∷ ds) d = ap (λ ys. (effect_of_decision x).counted ++ ys) (push-counted ds d) ∙ sym (append_assoc (effect_of_decision x).counted (effect_of_decisions ds).counted (effect_of_decision d).counted)

module _ (s : Settings) (e : Entry) (before : Journal) (k : ℕ) (answers : List Bool) (o : Opening) (rest : List Opening) (left : drop k (due_now s (e ∷ before)) ≡ o ∷ rest) (given : IsAnsweredUpTo s (e ∷ before) k) where
  abbrev past : Journal
  past = e ∷ before

  abbrev d : Decision
  d = decision s past o answers

  abbrev ds : List Decision
  ds = take k (decisions_now s past)

  -- one more decision is dealt with
  more-released : released_dealt s (answered past answers) (suc k) ≡ released_dealt s past k ++ (effect_of_decision d).released
  more-released =
      let before_all = (effect s before).released ++ (effect_of_taking s e before).released in
      ap (λ (xs : List Decision). before_all ++ (effect_of_decisions xs).released) (decisions-answered s e before k answers o rest left given)
      ∙ ap (λ ys. before_all ++ ys) (push-released ds d)
      ∙ sym (append_assoc before_all (effect_of_decisions ds).released (effect_of_decision d).released)

  more-dropped : (reason : Reason) → dropped_dealt s (answered past answers) (suc k) reason ≡ dropped_dealt s past k reason + number reason (effect_of_decision d).counted
  more-dropped reason =
      let before_all = (effect s before).counted ++ (effect_of_taking s e before).counted in
      ap (number reason) (ap (λ (xs : List Decision). before_all ++ (effect_of_decisions xs).counted) (decisions-answered s e before k answers o rest left given)
      ∙ ap (λ ys. before_all ++ ys) (push-counted ds d)
      ∙ sym (append_assoc before_all (effect_of_decisions ds).counted (effect_of_decision d).counted))
      ∙ number-append reason (before_all ++ (effect_of_decisions ds).counted) (effect_of_decision d).counted

  adds-released : released_dealt s (answered past answers) (k + 1) ≡ released_dealt s past k ++ (effect_of_decision d).released
  adds-released = ap (released_dealt s (answered past answers)) (add-one k) ∙ more-released

  adds-dropped : (reason : Reason) → dropped_dealt s (answered past answers) (k + 1) reason ≡ dropped_dealt s past k reason + number reason (effect_of_decision d).counted
  adds-dropped reason = ap (λ n. dropped_dealt s (answered past answers) n reason) (add-one k) ∙ more-dropped reason

-- a decision adds what its answer tells
pub decision_adds : (s : Settings) (e : Entry) (before : Journal) (k : ℕ) (answer : Decided) (answers : List Bool) (o : Opening) (rest : List Opening) → let past : Journal = e ∷ before in
    drop k (due_now s past) ≡ o ∷ rest → IsAnsweredUpTo s past k → Releases answer (spans_since past o) (verdict_given (policies_for s (spans_since past o)) answers (spans_since past o)) → AddsDecision s answer answers past k
decision_adds s e before k (Release xs) answers o rest left given r =
    let past : Journal = e ∷ before in
    let v = verdict_given (policies_for s (spans_since past o)) answers (spans_since past o) in (
      adds-released s e before k answers o rest left given ∙ ap (λ ys. released_dealt s past k ++ ys) (releases-released (Release xs) (spans_since past o) v r),
      λ reason. adds-dropped s e before k answers o rest left given reason ∙ ap (λ n. dropped_dealt s past k reason + n) (releases-dropped reason (Release xs) (spans_since past o) v r),
    )
decision_adds s e before k (NotReleased n) answers o rest left given r =
    let past : Journal = e ∷ before in
    let v = verdict_given (policies_for s (spans_since past o)) answers (spans_since past o) in (
      adds-released s e before k answers o rest left given ∙ ap (λ ys. released_dealt s past k ++ ys) (releases-released (NotReleased n) (spans_since past o) v r),
      λ reason. adds-dropped s e before k answers o rest left given reason ∙ ap (λ n. dropped_dealt s past k reason + n) (releases-dropped reason (NotReleased n) (spans_since past o) v r),
    )
decision_adds s e before k Nothing answers o rest left given r = absurd r

zero-more : (n : ℕ) → n ≡ n + 0
zero-more n = omega arith

-- no decision adds nothing
pub nothing_adds : (s : Settings) (past : Journal) (k : ℕ) → AddsDecision s Nothing [] past k
nothing_adds s past k = (sym (append-nil (released_dealt s past k)), λ reason. zero-more (dropped_dealt s past k reason))

-- a shard in which nothing is due has answered each decision
pub all_answered : (h : Held) (past : Journal) (k : ℕ) → 0 < h.waits.decision_wait → 0 < h.num_traces → has_due h ≡ false → StandsFor h past k → IsAnswered (settings h) past
all_answered h past k w l d t =
    all-answered (settings h) past k (nothing_left (settings h) (room_of h l) past k h.standing w t.0 t.1 t.2 (find-from_any (is_due_in h) h.standing.episodes d)) t.2
