-- What the exporter of running threads pulled, and what it handed over.
-- For the law `serve_is_replay`.
use Rattle.std.proofs.Common.{◌≡◌, ℕ, ◌+◌, ◌<◌, ◌==◌, ◌||◌, cond, Bool, true, false, not, List, [], ◌∷◌, ◌++◌, length, map, flat_map, Some, None, nat_lt, refl, sym, ap, ◌∙◌, arith, append-nil, append_assoc, eq-eqb}
use Rattle.std.specs.List.{AllByRecursion}
use Rattle.otlp_types.specs.declared.arrival.Arrival.{Arrival}
use Rattle.span_ids.specs.declared.outcome.Reason.{Reason}
use Rattle.journal_theory.specs.Fate.{DroppedSpan, counts}
use Rattle.journal_theory.proofs.ListFacts.{flat_map-append'}
use Rattle.lane_queue.specs.Merges.{of}
use Rattle.world_theory.specs.World.{CoreConfig}
use Rattle.world_theory.specs.Step.{is_empty}
use Rattle.world_theory.proofs.Steps.{and_then_some}
use Rattle.span_weave.specs.Threads.{ExporterAct, pulled, handed_over, failed, batch_dropped, pulls, ExporterMade, new_export, may_drop_batch, after_act, after_acts}

-- what was merged of one list is that list
pub of_one : {X : Type 0} (merged : List (ℕ × X)) → AllByRecursion (λ (x : ℕ × X). x.0 < 1) merged → of 0 merged ≡ map (λ (x : ℕ × X). x.1) merged
of_one [] h = refl
of_one {X} (x ∷ rest) h =
    let zero_is : x.0 ≡ 0 = omega (arith, h.0) in
    let is : (x.0 == 0) ≡ true = ap (λ n. n == 0) zero_is ∙ eq-eqb 0 0 refl in
    ap (λ (b : Bool). cond b (x.1 ∷ of 0 rest) (of 0 rest)) is ∙ ap (λ (z : List X). x.1 ∷ z) (of_one rest h.1)

some_if : {X : Type 0} (b : Bool) (x y : X) → cond b (Some x) None ≡ Some y → x ≡ y
some_if true x y e = cc e
some_if false x y e = absurd (cc e)

none_if : {X : Type 0} (b : Bool) (x y : X) → cond b None (Some x) ≡ Some y → x ≡ y
none_if true x y e = absurd (cc e)
none_if false x y e = cc e

abbrev flat : List (List Arrival) → List Arrival
flat batches = flat_map (λ batch. batch) batches

flat_more : (batches : List (List Arrival)) (batch : List Arrival) → flat (batches ++ batch ∷ []) ≡ flat batches ++ batch
flat_more batches batch = flat_map-append' (λ (b : List Arrival). b) batches (batch ∷ []) ∙ ap (λ (z : List Arrival). flat batches ++ z) (append-nil batch)

none_counted : (reason : Reason) (batch : List Arrival) (before : List DroppedSpan) → before ++ counts reason batch ≡ [] → (before ≡ []) × (batch ≡ [])
none_counted reason [] [] e = (refl, refl)
none_counted reason (a ∷ batch) [] e = absurd (cc e)
none_counted reason batch (n ∷ before) e = absurd (cc e)

-- what an act makes, where nothing is counted then: nothing was before, and what was handed over and the open batch have
-- what they had and what was pulled
act_keeps : (c : CoreConfig) (x : ExporterMade) (act : ExporterAct) (next : ExporterMade) → after_act c x act ≡ Some next → next.counted ≡ []
    → (x.counted ≡ []) × (flat next.handed ++ next.batch ≡ flat x.handed ++ x.batch ++ map (λ (p : ℕ × Arrival). p.1) (pulls (act ∷ [])))
act_keeps c x (pulled shard a) next e none =
    let is : record x { batch = x.batch ++ a ∷ [] } ≡ next = some_if (nat_lt (length x.batch) c.batch_size) (record x { batch = x.batch ++ a ∷ [] }) next e in (
      ap (λ (m : ExporterMade). m.counted) is ∙ none,
      sym (ap (λ (m : ExporterMade). flat m.handed ++ m.batch) is) ∙ sym (append_assoc (flat x.handed) x.batch (a ∷ [])),
    )
act_keeps c x handed_over next e none =
    let is : record x { handed = x.handed ++ x.batch ∷ []; batch = [] } ≡ next = none_if (is_empty x.batch || x.down) (record x { handed = x.handed ++ x.batch ∷ []; batch = [] }) next e in (
      ap (λ (m : ExporterMade). m.counted) is ∙ none,
      sym (ap (λ (m : ExporterMade). flat m.handed ++ m.batch) is) ∙ (append-nil (flat (x.handed ++ x.batch ∷ [])) ∙ (flat_more x.handed x.batch ∙ sym (append-nil (flat x.handed ++ x.batch)))),
    )
act_keeps c x failed next e none =
    let is : record x { down = true } ≡ next = none_if x.down (record x { down = true }) next e in (
      ap (λ (m : ExporterMade). m.counted) is ∙ none,
      sym (ap (λ (m : ExporterMade). flat m.handed ++ m.batch) is) ∙ sym (append-nil (flat x.handed ++ x.batch)),
    )
act_keeps c x (batch_dropped reason) next e none =
    let is : record x { counted = x.counted ++ counts reason x.batch; batch = [] } ≡ next = none_if (is_empty x.batch || not (may_drop_batch c x.down reason)) (record x { counted = x.counted ++ counts reason x.batch; batch = [] }) next e in
    let nothing = none_counted reason x.batch x.counted (ap (λ (m : ExporterMade). m.counted) is ∙ none) in (
      nothing.0,
      sym (ap (λ (m : ExporterMade). flat m.handed ++ m.batch) is) ∙ (sym (ap (λ (z : List Arrival). flat x.handed ++ z) nothing.1) ∙ sym (append-nil (flat x.handed ++ x.batch))),
    )

pulls_then : (act : ExporterAct) (rest : List ExporterAct) → map (λ (p : ℕ × Arrival). p.1) (pulls (act ∷ rest)) ≡ map (λ (p : ℕ × Arrival). p.1) (pulls (act ∷ [])) ++ map (λ (p : ℕ × Arrival). p.1) (pulls rest)
pulls_then (pulled shard a) rest = refl
pulls_then handed_over rest = refl
pulls_then failed rest = refl
pulls_then (batch_dropped reason) rest = refl

acts_keep : (c : CoreConfig) (x : ExporterMade) (acts : List ExporterAct) (end : ExporterMade) → after_acts c x acts ≡ Some end → end.counted ≡ []
    → (x.counted ≡ []) × (flat end.handed ++ end.batch ≡ flat x.handed ++ x.batch ++ map (λ (p : ℕ × Arrival). p.1) (pulls acts))
acts_keep c x [] end e none =
    let is : x ≡ end = cc e in
    (ap (λ (m : ExporterMade). m.counted) is ∙ none, sym (ap (λ (m : ExporterMade). flat m.handed ++ m.batch) is) ∙ sym (append-nil (flat x.handed ++ x.batch)))
acts_keep c x (act ∷ rest) end e none =
    let mid = and_then_some (λ (next : ExporterMade). after_acts c next rest) (after_act c x act) end e in
    let later = acts_keep c mid.0 rest end mid.2 none in
    let one = act_keeps c x act mid.0 mid.1 later.0 in (
      one.0,
      later.1 ∙ (ap (λ (z : List Arrival). z ++ map (λ (p : ℕ × Arrival). p.1) (pulls rest)) one.1
          ∙ (append_assoc (flat x.handed ++ x.batch) (map (λ (p : ℕ × Arrival). p.1) (pulls (act ∷ []))) (map (λ (p : ℕ × Arrival). p.1) (pulls rest))
          ∙ ap (λ (z : List Arrival). flat x.handed ++ x.batch ++ z) (sym (pulls_then act rest)))),
    )

-- where no batch was given up, and the last one is empty, all that was pulled was handed over
pub all_handed : (c : CoreConfig) (acts : List ExporterAct) (end : ExporterMade) → after_acts c new_export acts ≡ Some end → end.batch ≡ [] → end.counted ≡ []
    → flat_map (λ batch. batch) end.handed ≡ map (λ (p : ℕ × Arrival). p.1) (pulls acts)
all_handed c acts end e flushed none = sym (append-nil (flat end.handed)) ∙ (ap (λ (z : List Arrival). flat end.handed ++ z) (sym flushed) ∙ (acts_keep c new_export acts end e none).1)
