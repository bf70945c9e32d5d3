-- Which shards have ended.
-- For the contract of `work_from`.
use Rattle.std.proofs.Common.{◌≡◌, ◌≢◌, ℕ, zero, suc, ◌<◌, ◌==◌, Bool, true, false, true≢false, List, [], ◌∷◌, ◌++◌, length, set, refl, sym, ap, ◌∙◌, subst, arith, append-nil, eq-eqb}
use Rattle.std.specs.Prelude.{Some, slice_get, ◌||◌}
use Rattle.std.specs.List.{All, list_any, list_all, flat_map}
use native.Mathlib.Decide.{ℕ_discrete}
use Rattle.released_spans.specs.declared.shipment.Shipment.{Shipment}
use Rattle.released_spans.specs.declared.shipment.Shipment.TheVariants.{Span, End}
use Rattle.drop_ledger.specs.Places.{TallyState, Tallies}
use Rattle.span_exporter.specs.declared.answer.Flushed.{Flushed}
use Rattle.span_exporter.specs.Exports.{ExporterState, have_all_ended, with_shipment}
use Rattle.span_exporter.specs.Calls.{ExporterCall, pulled, flushed, noted, spans_pulled, batches_flushed, AnswersFor}
use Rattle.released_spans.specs.Shipping.{is_shipped_end}
use Rattle.span_exporter.specs.Work.{calls_of, shipments_in, has_ended, counted_in, WorksWherever}
use Rattle.span_exporter.specs.Sending.{Sent}
use Rattle.span_exporter.proofs.Keeping.{spans_are_kept}

-- each shard that has ended sent its End
abbrev pub EndsTold : List Bool → List (ℕ × Shipment) → Type 0
EndsTold ends shipments = (shard : ℕ) → slice_get ends shard ≡ Some true → has_ended shipments shard ≡ true

pub shipments-append : (calls more : List (ℕ × ExporterCall)) → shipments_in (calls ++ more) ≡ shipments_in calls ++ shipments_in more
shipments-append [] more = refl
shipments-append ((shard, pulled shipment answer) ∷ calls) more = ap (λ l. (shard, shipment) ∷ l) (shipments-append calls more)
shipments-append ((shard, flushed answer) ∷ calls) more = shipments-append calls more
shipments-append ((shard, noted line answer) ∷ calls) more = shipments-append calls more

any-append : {X : Type 0} (p : X → Bool) (xs ys : List X) → list_any p (xs ++ ys) ≡ (list_any p xs || list_any p ys)
any-append p [] ys = refl
any-append p (x ∷ xs) ys = go (p x) (any-append p xs ys) where
  go : (b : Bool) → list_any p (xs ++ ys) ≡ (list_any p xs || list_any p ys) → (b || list_any p (xs ++ ys)) ≡ ((b || list_any p xs) || list_any p ys)
  go true h = refl
  go false h = h

or_true : (b c : Bool) → b ≡ true → (b || c) ≡ true
or_true true c e = refl
or_true false c e = absurd (true≢false (sym e))

true_or : (b c : Bool) → c ≡ true → (b || (c || false)) ≡ true
true_or true c e = refl
true_or false true e = refl
true_or false false e = e

-- no shard has ended
pub none_told : (ends : List Bool) → list_any (λ b. b) ends ≡ false → EndsTold ends []
none_told [] none zero at = absurd (cc)
none_told [] none (suc shard) at = absurd (cc)
none_told (true ∷ ends) none shard at = absurd (true≢false none)
none_told (false ∷ ends) none zero at = absurd (cc)
none_told (false ∷ ends) none (suc shard) at = none_told ends none shard at

set_other : (xs : List Bool) (i k : ℕ) (w : Bool) → i ≢ k → slice_get (set xs i w) k ≡ slice_get xs k
set_other [] i k w apart = refl
set_other (x ∷ xs) zero zero w apart = absurd (apart refl)
set_other (x ∷ xs) zero (suc k) w apart = refl
set_other (x ∷ xs) (suc i) zero w apart = refl
set_other (x ∷ xs) (suc i) (suc k) w apart = set_other xs i k w (λ e. apart (ap suc e))

pub set_length : (xs : List Bool) (i : ℕ) (w : Bool) → length (set xs i w) ≡ length xs
set_length [] i w = refl
set_length (x ∷ xs) zero w = refl
set_length (x ∷ xs) (suc i) w = ap suc (set_length xs i w)

pub same_length : (shipment : Shipment) (old : ExporterState) → length (with_shipment shipment old).ends ≡ length old.ends
same_length (Span a policy) old = refl
same_length (End s) old = set_length old.ends s true

told_one : (ends : List Bool) (shipments : List (ℕ × Shipment)) (place s shard : ℕ) → EndsTold ends shipments → Dec (s ≡ shard) → slice_get (set ends s true) shard ≡ Some true → has_ended (shipments ++ (place, End s) ∷ []) shard ≡ true
told_one ends shipments place s shard told (yes same) at =
    any-append (λ (x : ℕ × Shipment). is_shipped_end shard x.1) shipments ((place, End s) ∷ []) ∙ true_or (has_ended shipments shard) (s == shard) (eq-eqb s shard same)
told_one ends shipments place s shard told (no apart) at =
    any-append (λ (x : ℕ × Shipment). is_shipped_end shard x.1) shipments ((place, End s) ∷ []) ∙ or_true (has_ended shipments shard) _ (told shard (sym (set_other ends s shard true apart) ∙ at))

-- one more shipment
pub told_more : (old : ExporterState) (shipments : List (ℕ × Shipment)) (place : ℕ) (shipment : Shipment) → EndsTold old.ends shipments → EndsTold (with_shipment shipment old).ends (shipments ++ (place, shipment) ∷ [])
told_more old shipments place (Span a policy) told shard at = any-append (λ (x : ℕ × Shipment). is_shipped_end shard x.1) shipments ((place, Span a policy) ∷ []) ∙ or_true (has_ended shipments shard) _ (told shard at)
told_more old shipments place (End s) told shard at = told_one old.ends shipments place s shard told (ℕ_discrete s shard) at

ended_at : (ends : List Bool) (shard : ℕ) → list_all (λ b. b) ends ≡ true → shard < length ends → slice_get ends shard ≡ Some true
ended_at [] shard all within = absurd (omega arith)
ended_at (true ∷ ends) zero all within = refl
ended_at (true ∷ ends) (suc shard) all within = ended_at ends shard all (omega arith)
ended_at (false ∷ ends) shard all within = absurd (true≢false (sym all))

-- what was popped, after a flush
pub flush_pops_none : (calls : List (ℕ × ExporterCall)) (call : ℕ × ExporterCall) → shipments_in (call ∷ []) ≡ [] → shipments_in (calls ++ call ∷ []) ≡ shipments_in calls
flush_pops_none calls call none = shipments-append calls (call ∷ []) ∙ ap (λ l. shipments_in calls ++ l) none ∙ append-nil (shipments_in calls)

-- which shards have ended, after a flush
pub told_flush : (ends ends' : List Bool) (calls : List (ℕ × ExporterCall)) (answer : Flushed) → ends' ≡ ends → EndsTold ends (shipments_in calls) → EndsTold ends' (shipments_in (calls ++ (0, flushed answer) ∷ []))
told_flush ends ends' calls answer same told =
    subst (λ e. EndsTold e (shipments_in (calls ++ (0, flushed answer) ∷ []))) (sym same) (subst (λ l. EndsTold ends l) (sym (flush_pops_none calls (0, flushed answer) refl)) told)

-- which shards have ended, after a shipment was taken
pub told_taking : (place : ℕ) (shipment : Shipment) (old : ExporterState) (ends' : List Bool) (calls more : List (ℕ × ExporterCall)) → shipments_in more ≡ (place, shipment) ∷ []
    → ends' ≡ (with_shipment shipment old).ends → EndsTold old.ends (shipments_in calls) → EndsTold ends' (shipments_in (calls ++ more))
told_taking place shipment old ends' calls more is ends told =
    subst (λ e. EndsTold e (shipments_in (calls ++ more))) (sym ends)
    (subst (λ l. EndsTold (with_shipment shipment old).ends l) (sym (shipments-append calls more ∙ ap (λ l. shipments_in calls ++ l) is)) (told_more old (shipments_in calls) place shipment told))

-- the last End was taken, and the batch flushed
pub works : (old new : ExporterState) (before after : TallyState) (calls : List (ℕ × ExporterCall))
    → old.batch ≡ [] → length new.ends ≡ length old.ends → have_all_ended new.ends ≡ true → new.batch ≡ [] → Sent old before new after calls → EndsTold new.ends (shipments_in calls)
    → WorksWherever old new before after calls
works old new before after calls empty same finished none sent told = λ receiver merge.
    let kept = spans_are_kept old new (calls_of calls) sent.leads in
    record {
      leads = sent.leads;
      no_notes = sent.no_notes;
      of_queues = merge;
      ended = λ shard within. told shard (ended_at new.ends shard finished (omega (arith, same)));
      in_order = subst (λ b. b ++ spans_pulled (calls_of calls) ≡ flat_map (λ x. x.spans) (batches_flushed b (calls_of calls))) empty (kept.in_order ∙ ap (λ l. flat_map (λ x. x.spans) (batches_flushed old.batch (calls_of calls)) ++ l) none ∙ append-nil _);
      answered = subst (λ b. All (λ x. AnswersFor x.spans x.answer) (batches_flushed b (calls_of calls))) empty kept.answered;
      none_left = none;
      counted = subst (λ b. Tallies (counted_in (batches_flushed b (calls_of calls))) before after) empty sent.counted;
    }
