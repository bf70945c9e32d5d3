-- All that is due is decided in turn, whatever "steps lead from one world to another" says beside it.
-- For the runs that scripts and threads are, in the crates above.
use Rattle.std.proofs.Common.{◌≡◌, ℕ, ◌+◌, Bool, true, List, [], ◌∷◌, ◌++◌, length, slice_get, Some, refl, sym, ap, ◌∙◌, arith, append_assoc, append-nil, length-append}
use Rattle.std.proofs.lemmas.Bool.{and_parts}
use Rattle.otlp_types.specs.declared.arrival.Arrival.{Arrival}
use Rattle.policy_eval.specs.Given.{are_answered}
use Rattle.journal_theory.specs.Journal.{Settings, Entry, Journal, Opening, due_now, policies_for, decision, decisions_in_turn, spans_since, are_each_answered}
use Rattle.journal_theory.specs.Fate.{DroppedSpan, Effect, effect_of_decision, effect_of_decisions}
use Rattle.world_theory.specs.World.{World}

-- what stands behind a front
pub mid_get : {X : Type 0} (front : List X) (x : X) (back : List X) → slice_get (front ++ x ∷ back) (length front) ≡ Some x
mid_get [] x back = refl
mid_get (y ∷ front) x back = mid_get front x back

-- In the world `at given n out C` the shard's last item has these answers so far, and so many of its episodes were
-- decided; the shard has these spans to ship, and these are counted.
module _ (s : Settings) (e : Entry) (J : Journal) (at : (given : List (List Bool)) (n : ℕ) (out : List Arrival) (counted : List DroppedSpan) → World) (Leads : World → World → Type 0)
    (same : (w after : World) → w ≡ after → Leads w after) (joined : (w mid after : World) → Leads w mid → Leads mid after → Leads w after)
    (decides : (given : List (List Bool)) (n : ℕ) (out : List Arrival) (C : List DroppedSpan) (o : Opening) (answers : List Bool) → slice_get (due_now s (e ∷ J)) n ≡ Some o → are_answered (policies_for s (spans_since (e ∷ J) o)) answers (spans_since (e ∷ J) o) ≡ true
    → (let d = effect_of_decision (decision s (e ∷ J) o answers) in Leads (at given n out C) (at (given ++ answers ∷ []) (n + 1) (out ++ d.released) (C ++ d.counted)))) where
  -- the decisions that are left are made in turn, by their answers
  pub decides_all : (given left : List (List Bool)) (out : List Arrival) (C : List DroppedSpan) (before os : List Opening) → due_now s (e ∷ J) ≡ before ++ os → are_each_answered s (e ∷ J) os left ≡ true
      → (let ds = effect_of_decisions (decisions_in_turn s (e ∷ J) os left) in Leads (at given (length before) out C) (at (given ++ left) (length (due_now s (e ∷ J))) (out ++ ds.released) (C ++ ds.counted)))
  decides_all given [] out C before [] is fits = same _ _ (cc (append-nil out, append-nil C, append-nil given, all))
    where
      all : length before ≡ length (due_now s (e ∷ J))
      all = sym (ap (λ (z : List Opening). length z) (is ∙ append-nil before))
  decides_all given (a ∷ left) out C before [] is fits = absurd (cc fits)
  decides_all given [] out C before (o ∷ os) is fits = absurd (cc fits)
  decides_all given (a ∷ left) out C before (o ∷ os) is fits =
      joined _ _ _ (decides given (length before) out C o a (ap (λ (z : List Opening). slice_get z (length before)) is ∙ mid_get before o os) (and_parts _ _ fits).0)
      (joined _ _ _ (same _ _ (ap (λ (n : ℕ). at (given ++ a ∷ []) n (out ++ one.released) (C ++ one.counted)) longer))
      (joined _ _ _ (decides_all (given ++ a ∷ []) left (out ++ one.released) (C ++ one.counted) (before ++ o ∷ []) os (is ∙ sym (append_assoc before (o ∷ []) os)) (and_parts _ _ fits).1)
      (same _ _ (cc (append_assoc out one.released more.released, append_assoc C one.counted more.counted, append_assoc given (a ∷ []) left)))))
    where
      one : Effect
      one = effect_of_decision (decision s (e ∷ J) o a)

      more : Effect
      more = effect_of_decisions (decisions_in_turn s (e ∷ J) os left)

      longer : length before + 1 ≡ length (before ++ o ∷ [])
      longer = omega (arith, length-append before (o ∷ []))
