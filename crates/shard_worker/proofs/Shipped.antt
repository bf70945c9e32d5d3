-- What is shipped, item by item and decision by decision.
-- For the contracts of `Turns::turn` and `Turns::decide_due`.
use Rattle.std.proofs.Common.{◌≡◌, ℕ, zero, suc, Bool, true, false, List, [], ◌∷◌, ◌++◌, take, drop, Option, None, refl, sym, ap, ◌∙◌, append-nil, append_assoc}
use Rattle.std.proofs.lemmas.Bool.{and_parts}
use Rattle.otlp_types.specs.declared.arrival.Arrival.{Arrival}
use Rattle.span_ids.specs.declared.outcome.Verdict.{Verdict}
use Rattle.span_ids.specs.declared.outcome.Verdict.TheVariants.{Sampled, NotSampled}
use Rattle.released_spans.specs.declared.shipment.Shipment.{Shipment}
use Rattle.released_spans.specs.Shipping.{shipments}
use Rattle.policy_eval.specs.Given.{verdict_given, decider_given, are_answered}
use Rattle.journal_theory.specs.Journal.{Entry, Settings, Journal, Opening, due_now, policies_for, spans_since, are_each_answered}
use Rattle.journal_theory.proofs.Answering.{no_more, due-same}
use Rattle.shard_core.specs.Held.{Held, settings}
use Rattle.shard_core.specs.Taking.{Releases, DecidesFirst, TellsDecider, answer_to, entry, released_by, released_in}
use Rattle.shard_core.specs.declared.answer.Taken.{Taken}
use Rattle.shard_core.specs.declared.answer.Decided.{Decided}
use Rattle.shard_core.specs.declared.answer.Decided.TheVariants.{Release, Nothing, Dropped as NotReleased}
use Rattle.otlp_types.specs.declared.arrival.Item.{Item}
use Rattle.shard_worker.specs.Shipped.{recorded, shipped_by, decision_shipped, decisions_shipped, shipped_in}
use Rattle.shard_worker.proofs.Giving.{answer_same, given_after}

unanswered : (s : Settings) (past : Journal) (os : List Opening) → decisions_shipped s past os [] ≡ []
unanswered s past [] = refl
unanswered s past (o ∷ os) = refl

-- after an item: only a span that comes late is shipped
pub shipped_taken : (s : Settings) (past : Journal) (item : Item) (answer : Taken) (old new : List Shipment) → old ≡ shipped_in s past → answer ≡ answer_to s (entry item answer) past → new ≡ old ++ shipments None (released_by answer)
    → new ≡ shipped_in s (entry item answer ∷ past)
shipped_taken s past item answer old new was is more =
    let e = entry item answer in
    let late = ap (λ (a : Taken). shipments None (released_by a)) is in
    let none = ap (λ l. shipments None (released_by (answer_to s e past)) ++ l) (unanswered s (e ∷ past) (due_now s (e ∷ past))) ∙ append-nil (shipments None (released_by (answer_to s e past))) in
    more ∙ ap (λ l. l ++ shipments None (released_by answer)) was ∙ ap (λ l. shipped_in s past ++ l) (late ∙ sym none)

-- ---- an entry with other answers

module _ (s : Settings) (e : Entry) (before : Journal) (more : List (List Bool)) where
  abbrev other : Journal
  other = record e { answers = more } ∷ before

  each_same : (os : List Opening) (given : List (List Bool)) → decisions_shipped s other os given ≡ decisions_shipped s (e ∷ before) os given
  each_same [] given = refl
  each_same (o ∷ os) [] = refl
  each_same (o ∷ os) (a ∷ given) = ap (λ l. decision_shipped s (e ∷ before) o a ++ l) (each_same os given)

  decisions_same : (given : List (List Bool)) → decisions_shipped s other (due_now s other) given ≡ decisions_shipped s (e ∷ before) (due_now s (e ∷ before)) given
  decisions_same given = ap (λ os. decisions_shipped s other os given) (due-same s e before more) ∙ each_same (due_now s (e ∷ before)) given

  -- what the answers add
  pub shipped_is : shipped_in s other ≡ shipped_in s before ++ (shipments None (released_by (answer_to s e before)) ++ decisions_shipped s (e ∷ before) (due_now s (e ∷ before)) more)
  shipped_is = ap (λ a. shipped_in s before ++ (shipments None (released_by a) ++ decisions_shipped s other (due_now s other) more)) (answer_same s e before more)
      ∙ ap (λ l. shipped_in s before ++ (shipments None (released_by (answer_to s e before)) ++ l)) (decisions_same more)

-- ---- one more decision

module _ (s : Settings) (past : Journal) where
  shipped-next : (k : ℕ) (os : List Opening) (given : List (List Bool)) (answers : List Bool) (o : Opening) (rest : List Opening) → drop k os ≡ o ∷ rest →
      are_each_answered s past (take k os) given ≡ true → decisions_shipped s past os (given ++ answers ∷ []) ≡ decisions_shipped s past os given ++ decision_shipped s past o answers
  shipped-next k [] given answers o rest e h = absurd (no_more k o rest e)
  shipped-next zero (p ∷ os) [] answers o rest e h =
      let same : p ≡ o = cc in
      ap (λ l. decision_shipped s past p answers ++ l) (unanswered s past os) ∙ append-nil (decision_shipped s past p answers) ∙ ap (λ (q : Opening). decision_shipped s past q answers) same
  shipped-next zero (p ∷ os) (g ∷ given) answers o rest e h = absurd (let x : false ≡ true = h in cc)
  shipped-next (suc k) (p ∷ os) [] answers o rest e h = absurd (let x : false ≡ true = h in cc)
  shipped-next (suc k) (p ∷ os) (g ∷ given) answers o rest e h =
      ap (λ l. decision_shipped s past p g ++ l) (shipped-next k os given answers o rest e (and_parts (are_answered (policies_for s (spans_since past p)) g (spans_since past p)) (are_each_answered s past (take k os) given) h).1)
      ∙ sym (append_assoc (decision_shipped s past p g) (decisions_shipped s past os given) (decision_shipped s past o answers))

-- what the answer releases is what the verdict releases
released_as : (answer : Decided) (decider : Option ℕ) (spans : List Arrival) (verdict : Verdict) → Releases answer spans verdict → shipments (recorded decider) (released_in answer) ≡ shipped_by verdict decider spans
released_as Nothing decider spans verdict r = absurd r
released_as (Release v) decider spans Sampled r = ap (shipments (recorded decider)) r
released_as (Release v) decider spans NotSampled r = absurd r
released_as (NotReleased n) decider spans Sampled r = absurd r
released_as (NotReleased n) decider spans NotSampled r = refl

module _ {L : Type 0} (asks : L → ℕ → ℕ → ℕ → Bool → L → Type 0) (before after : L) (old new : Held) (decider : Option ℕ) (answers : List Bool) (past : Journal) (k : ℕ) where
  abbrev s : Settings
  s = settings old

  one : (answer : Decided) (o : Opening) → Releases answer (spans_since past o) (verdict_given (policies_for s (spans_since past o)) answers (spans_since past o))
      → decider ≡ decider_given (policies_for s (spans_since past o)) answers (spans_since past o) → shipments (recorded decider) (released_in answer) ≡ decision_shipped s past o answers
  one answer o r d =
      let spans = spans_since past o in
      let policies = policies_for s spans in
      released_as answer decider spans (verdict_given policies answers spans) r ∙ ap (λ (x : Option ℕ). shipped_by (verdict_given policies answers spans) x spans) d

  -- what was shipped of the decisions, with this one more
  pub decisions_more : (answer : Decided) (given : List (List Bool)) (os : List Opening) → drop k (due_now s past) ≡ os → are_each_answered s past (take k (due_now s past)) given ≡ true
      → DecidesFirst asks old new answer before after answers past os → TellsDecider s decider answers past os
      → decisions_shipped s past (due_now s past) (given_after answer given answers) ≡ decisions_shipped s past (due_now s past) given ++ shipments (recorded decider) (released_in answer)
  decisions_more Nothing given os is h f d = sym (append-nil (decisions_shipped s past (due_now s past) given))
  decisions_more (Release v) given [] is h f d = absurd (let x : Release v ≡ Nothing = f.0 in cc)
  decisions_more (Release v) given (o ∷ later) is h f d = shipped-next s past k (due_now s past) given answers o later is h ∙ ap (λ l. decisions_shipped s past (due_now s past) given ++ l) (sym (one (Release v) o f.0 d))
  decisions_more (NotReleased n) given [] is h f d = absurd (let x : NotReleased n ≡ Nothing = f.0 in cc)
  decisions_more (NotReleased n) given (o ∷ later) is h f d = shipped-next s past k (due_now s past) given answers o later is h ∙ ap (λ l. decisions_shipped s past (due_now s past) given ++ l) (sym (one (NotReleased n) o f.0 d))

-- after a decision
pub shipped_decided : (s : Settings) (e : Entry) (past : Journal) (given more : List (List Bool)) (old new added : List Shipment) → let now : Journal = record e { answers = given } ∷ past in
    decisions_shipped s now (due_now s now) more ≡ decisions_shipped s now (due_now s now) given ++ added → old ≡ shipped_in s now → new ≡ old ++ added → new ≡ shipped_in s (record e { answers = more } ∷ past)
shipped_decided s e past given more old new added d was is =
    let now : Entry = record e { answers = given } in
    let item = shipments None (released_by (answer_to s now past)) in
    let one = decisions_shipped s (now ∷ past) (due_now s (now ∷ past)) given in
    is ∙ ap (λ l. l ++ added) was ∙ append_assoc (shipped_in s past) (item ++ one) added ∙ ap (λ l. shipped_in s past ++ l) (append_assoc item one added ∙ ap (λ l. item ++ l) (sym d)) ∙ sym (shipped_is s now past more)
